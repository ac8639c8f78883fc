-- The tags of a header, tested one after the other.
use Rattle.std.proofs.Common.{◌≡◌, ℕ, zero, suc, ◌<◌, List, [], ◌∷◌, length, get_or, Bool, true, false, Some, None, refl, sym, ap, ◌∙◌, arith}
use Rattle.std.specs.Prelude.{◌&&◌, if◌then◌else◌}
use Rattle.std.specs.List.{list_all}
use Rattle.mol_base.specs.Spelled.{is_tag}
use Rattle.mol_base.specs.TagFault.{IsTagFault}
use Rattle.mol_base.specs.declared.tag_fault.TagFault.{TagFault}
use Rattle.mol_base.proofs.Identities.{no_fault}
use Rattle.mol_base.proofs.Spelled.{is_tag-from}
use Rattle.mol_log_rows.specs.lines.Headers.{are_tags, some_tags, ascend}
use Rattle.mol_log_rows.specs.lines.Reader.{passing}
use Rattle.mol_log_rows.proofs.lines_lemmas.Taken.{fails}

and_false : (a b : Bool) → (a && false && b) ≡ false
and_false true b = refl
and_false false b = refl

-- where a text is no tag, they are no tags of a header
pub tags_refused : (tags : List (List ℕ)) → passing (list_all is_tag) tags ≡ None → passing are_tags tags ≡ None
tags_refused tags e = by (list_all is_tag tags) refl e where
  by : (b : Bool) → list_all is_tag tags ≡ b → (if b then Some tags else None) ≡ None → passing are_tags tags ≡ None
  by true is e = absurd cc
  by false not e = fails are_tags tags (ap (λ b. some_tags tags && b && ascend tags) not ∙ and_false (some_tags tags) (ascend tags))

-- what a fault says of a text
pub no_tag : (bytes text : List ℕ) (fault : TagFault) → is_tag bytes ≡ is_tag text → IsTagFault bytes fault → is_tag text ≡ false
no_tag bytes text fault same bad = sym same ∙ by (is_tag bytes) refl where
  by : (b : Bool) → is_tag bytes ≡ b → is_tag bytes ≡ false
  by true is = absurd (no_fault bytes fault (is_tag-from bytes is) bad)
  by false is = is

pub one_no_tag : (texts : List (List ℕ)) (at : ℕ) (d : List ℕ) → at < length texts → is_tag (get_or texts at d) ≡ false → list_all is_tag texts ≡ false
one_no_tag [] at d low not = absurd (omega (arith, low))
one_no_tag (text ∷ texts) zero d low not = ap (λ b. b && list_all is_tag texts) not
one_no_tag (text ∷ texts) (suc at) d low not =
    ap (λ b. is_tag text && b) (one_no_tag texts at d (omega (arith, low)) not) ∙ and_no (is_tag text) where
      and_no : (b : Bool) → (b && false) ≡ false
      and_no true = refl
      and_no false = refl
