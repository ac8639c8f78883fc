-- What may be imported is one or another, and what a name may be for that may be for two.
use Rattle.std.proofs.Common.{◌≡◌, Bool, true, false, ◌&&◌, cond, if◌then◌else◌, Option, Some, refl, sym, ap, ◌∙◌, bytes_eq}
use Rattle.std.proofs.lemmas.Bool.{false≢true}
use Rattle.std.proofs.lemmas.Slice.Eq.{bytes_eq-Decides}
use Rattle.jav_names.specs.DottedNames.{Name}
use Rattle.mol_spell_names.specs.simple_names.Bearers.{Bearers, bearer_at, may_be}
use Rattle.mol_spell_rules.specs.SimpleNames.{same_importable}
use Rattle.mol_spell_rules.specs.Writers.{Importable, outside_import, program_class}
use Rattle.mol_table_rules.proofs.Living.{id_tied, same_id-own}
use Rattle.mol_spell_expr.specs.Importables.{importable_of}
use Rattle.mol_spell_expr.specs.declared.importable.Importable.{Importable as Lent}

-- ---- one and the same

same-is : (first second : Importable) → same_importable first second ≡ true → first ≡ second
same-is (program_class a) (program_class b) e = ap (λ class. program_class class) (id_tied a b e)
same-is (outside_import a) (outside_import b) e = ap (λ full. outside_import full) ((bytes_eq-Decides a b).0 e)
same-is (program_class a) (outside_import b) e = absurd (false≢true e)
same-is (outside_import a) (program_class b) e = absurd (false≢true e)

same-itself : (what : Importable) → same_importable what what ≡ true
same-itself (program_class a) = same_id-own a
same-itself (outside_import a) = (bytes_eq-Decides a a).1 refl

-- ---- what may be both

both-same : (b : Bool) → b ≡ b && b
both-same true = refl
both-same false = refl

and-nothing : (b : Bool) → false ≡ b && false
and-nothing true = refl
and-nothing false = refl

and-any : (b : Bool) → b ≡ b && true
and-any true = refl
and-any false = refl

pub common-same : (first second : Lent) (what : Importable) → same_importable (importable_of first) (importable_of second) ≡ true
    → same_importable (importable_of first) what
    ≡ same_importable (importable_of first) what && same_importable (importable_of second) what
common-same first second what e =
    both-same (same_importable (importable_of first) what)
    ∙ ap (λ bearer. same_importable (importable_of first) what && same_importable bearer what)
    (same-is (importable_of first) (importable_of second) e)

pub common-none : (first second : Lent) (what : Importable) → same_importable (importable_of first) (importable_of second) ≡ false
    → false ≡ same_importable (importable_of first) what && same_importable (importable_of second) what
common-none first second what e =
    by (same_importable (importable_of first) what) refl (same_importable (importable_of second) what) refl where
      by : (a : Bool) → same_importable (importable_of first) what ≡ a → (b : Bool)
          → same_importable (importable_of second) what ≡ b → false ≡ a && b
      by false is b other = refl
      by true is false other = refl
      by true is true other =
          let one = same-is (importable_of first) what is in
          let two = same-is (importable_of second) what other in
          absurd (false≢true (sym e ∙ ap (same_importable (importable_of first)) (two ∙ sym one) ∙ same-itself (importable_of first)))

-- ---- a name that is taken once more

pub taken-once-more : (bearers : Bearers) (name asked : Name) (new : Option (Option Lent)) (kept bearer : Option Lent) (what : Importable)
    → new ≡ cond (bytes_eq name asked) (Some kept) (bearer_at bearers asked)
    → may_be (Some kept) what ≡ may_be (bearer_at bearers name) what && may_be (Some bearer) what
    → may_be new what ≡ may_be (bearer_at bearers asked) what && (if bytes_eq name asked then may_be (Some bearer) what else true)
taken-once-more bearers name asked new kept bearer what is keeps = ap (λ o. may_be o what) is ∙ by (bytes_eq name asked) refl where
  by : (b : Bool) → bytes_eq name asked ≡ b → may_be (cond b (Some kept) (bearer_at bearers asked)) what
      ≡ may_be (bearer_at bearers asked) what && (if b then may_be (Some bearer) what else true)
  by true same = keeps
      ∙ ap (λ name. may_be (bearer_at bearers name) what && may_be (Some bearer) what) ((bytes_eq-Decides name asked).0 same)
  by false differs = and-any (may_be (bearer_at bearers asked) what)
