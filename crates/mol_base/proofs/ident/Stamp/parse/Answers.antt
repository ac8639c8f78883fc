use Rattle.std.proofs.Common.{◌≡◌, ◌∙◌, sym, refl, inr}
use Rattle.std.specs.Prelude.{Some}
use Rattle.std.specs.Fmt.{decimal}
use Rattle.std.proofs.lemmas.Option.{same_Some, none-some}
use Rattle.mol_base.proofs.Identities.{lacks_separator}
use Rattle.mol_base.proofs.ident.Stamp.parse.Goals as goal

pub returns-in_err-tag-clause-only : goal.returns-in_err-tag-clause-only
returns-in_err-tag-clause-only c = λ stamp is spelled.
    absurd (c.in_err-tag.ensures.only stamp.tag (decimal stamp.seq) (lacks_separator stamp.tag 64 is.0.1.1 (inr refl)) spelled)

pub returns-in_err-tag-2-clause-only : goal.returns-in_err-tag-2-clause-only
returns-in_err-tag-2-clause-only c = λ stamp is spelled.
    let parts = c.in_ok-tag.ensures.only stamp.tag (decimal stamp.seq) (lacks_separator stamp.tag 64 is.0.1.1 (inr refl)) spelled in
    absurd (c.in_err-tag-2.ensures.none (rw parts.0 is.0))

pub returns-in_err-seq-clause-only : goal.returns-in_err-seq-clause-only
returns-in_err-seq-clause-only c = λ stamp is spelled.
    let parts = c.in_ok-tag.ensures.only stamp.tag (decimal stamp.seq) (lacks_separator stamp.tag 64 is.0.1.1 (inr refl)) spelled in
    absurd (none-some _ (c.in_err-seq.ensures.only stamp.seq is.1 (sym parts.1)))

pub returns-clause-only : goal.returns-clause-only
returns-clause-only c = λ stamp is spelled.
    let parts = c.in_ok-tag.ensures.only stamp.tag (decimal stamp.seq) (lacks_separator stamp.tag 64 is.0.1.1 (inr refl)) spelled in
    let tag : c.in_ok-tag-2.tag ≡ stamp.tag = c.in_ok-tag-2.ensures.some.0 ∙ parts.0 in
    let number : c.in_ok-seq.seq ≡ stamp.seq = same_Some _ _ (c.in_ok-seq.ensures.only stamp.seq is.1 (sym parts.1)) in
    λ i. Some (record { tag = tag i; seq = number i })
