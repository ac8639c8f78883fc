-- Words spell a tree or have a first bad word.
use Rattle.std.proofs.Common.{◌≡◌, ◌⊎◌, inl, inr, ℕ, ◌-◌, ◌≤◌, ◌==◌, Bool, true, false, List, [], ◌∷◌, length, Ok, Err, refl, arith}
use Rattle.std.proofs.lemmas.Bool.Decides.{nat_tests}
use Rattle.mol_log_body.proofs.BackBodies.{laws_body}
use Rattle.mol_log_body.specs.BodyReader as bodies
use Rattle.mol_log_expr.proofs.BackExpressions.{laws_expr}
use Rattle.mol_log_expr.specs.ExpressionReader.{expr}
use Rattle.mol_log_expr.specs.declared.expr_role.ExprRole.TheVariants.{First}
use Rattle.mol_log_words.proofs.BackTypes.{laws_type}
use Rattle.mol_log_words.proofs.FirstBad.{Laws, left, longer, refused, tree}
use Rattle.mol_log_words.specs.FirstBad.{Form, IsFirstBad}
use Rattle.mol_log_words.specs.Reader.{Outcome, Parser}
use Rattle.mol_log_words.specs.TypeReader.{type_name}
use Rattle.mol_log_words.specs.Types.{most_dimensions}
use Rattle.mol_log_words.specs.Words.{Word}
use Rattle.mol_log.specs.entries.Trees.{AreGood, HaveBad, IsBad, IsGood, Part, SpellsBody, SpellsType, SpellsValue, body, here, later, type, value}

module _ {T : Type 0} (S : Form T) (p : Parser T) (laws : Laws S p) (ts : List Word) where
  by_rest : (t : T) (rest : List Word) → p ts ≡ Ok (t, rest) → (none_left : Bool) → (length rest == 0) ≡ none_left
      → ((t : T) × S t ts) ⊎ ((at : ℕ) × IsFirstBad S ts at)
  by_rest t rest is true none = inl (t, tree S p laws ts t rest is (grind (arith, nat_tests)))
  by_rest t rest is false some =
      let few : length rest ≤ length ts = left S p laws ts (Ok (t, rest)) is in
      inr (length ts - length rest, longer S p laws ts t rest is (grind (arith, nat_tests)) (length ts - length rest) (omega (arith, few)))

  by : (o : Outcome T) → p ts ≡ o → ((t : T) × S t ts) ⊎ ((at : ℕ) × IsFirstBad S ts at)
  by (Ok x) is = by_rest x.0 x.1 is (length x.1 == 0) refl
  by (Err bad) is =
      let few : length bad ≤ length ts = left S p laws ts (Err bad) is in
      inr (length ts - length bad, refused S p laws ts bad is (length ts - length bad) (omega (arith, few)))

  told : ((t : T) × S t ts) ⊎ ((at : ℕ) × IsFirstBad S ts at)
  told = by (p ts) refl

part_told : (part : Part) → IsGood part ⊎ ((word : ℕ) × IsBad part word)
part_told (type role words) = told (SpellsType role) (type_name role most_dimensions) (laws_type role) words
part_told (value words) = told SpellsValue (expr 500 [] First) (laws_expr First 500 [] (omega arith)) words
part_told (body words) = told SpellsBody (bodies.body 500) (laws_body 500 (omega arith)) words

-- all lists of words are good, or one is the first bad one
pub parts_told : (parts : List Part) → AreGood parts ⊎ ((word : ℕ) × HaveBad parts word)
parts_told [] = inl tt
parts_told (part ∷ more) = by (part_told part) (parts_told more) where
  by : IsGood part ⊎ ((word : ℕ) × IsBad part word) → AreGood more ⊎ ((word : ℕ) × HaveBad more word)
      → AreGood (part ∷ more) ⊎ ((word : ℕ) × HaveBad (part ∷ more) word)
  by (inl good) (inl all) = inl (good, all)
  by (inl good) (inr bad) = inr (bad.0, later good bad.1)
  by (inr bad) rest = inr (bad.0, here bad.1)
