use Rattle.std.proofs.Common.{◌≡◌, ◌∙◌, sym, refl, inl}
use Rattle.std.specs.Prelude.{Some}
use Rattle.std.specs.Fmt.{decimal}
use Rattle.std.proofs.lemmas.Option.{same_Some, none-some}
use Rattle.mol_base.proofs.Identities.{lacks_separator}
use Rattle.mol_base.proofs.ident.Id.parse.Goals as goal

pub returns-in_err-tag-clause-only : goal.returns-in_err-tag-clause-only
returns-in_err-tag-clause-only c = λ id is spelled.
    absurd (c.in_err-tag.ensures.only id.tag (decimal id.num) (lacks_separator id.tag 58 is.0.1 (inl refl)) spelled)

pub returns-in_err-tag-2-clause-only : goal.returns-in_err-tag-2-clause-only
returns-in_err-tag-2-clause-only c = λ id is spelled.
    let parts = c.in_ok-tag.ensures.only id.tag (decimal id.num) (lacks_separator id.tag 58 is.0.1 (inl refl)) spelled in
    absurd (c.in_err-tag-2.ensures.none (rw parts.0 is.0))

pub returns-in_err-num-clause-only : goal.returns-in_err-num-clause-only
returns-in_err-num-clause-only c = λ id is spelled.
    let parts = c.in_ok-tag.ensures.only id.tag (decimal id.num) (lacks_separator id.tag 58 is.0.1 (inl refl)) spelled in
    absurd (none-some _ (c.in_err-num.ensures.only id.num is.1 (sym parts.1)))

pub returns-clause-only : goal.returns-clause-only
returns-clause-only c = λ id is spelled.
    let parts = c.in_ok-tag.ensures.only id.tag (decimal id.num) (lacks_separator id.tag 58 is.0.1 (inl refl)) spelled in
    let tag : c.in_ok-tag-2.tag ≡ id.tag = c.in_ok-tag-2.ensures.some.0 ∙ parts.0 in
    let number : c.in_ok-num.num ≡ id.num = same_Some _ _ (c.in_ok-num.ensures.only id.num is.1 (sym parts.1)) in
    λ i. Some (record { tag = tag i; num = number i })
