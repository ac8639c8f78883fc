-- Whether so many names spell a class.
use Rattle.std.proofs.Common.{◌≡◌, ◌≢◌, ◌<◌, ◌≤◌, ℕ, Bool, cond, sym, ap}
use Rattle.std.proofs.lemmas.Bool.{eq-eqb, ne_eqb, lt-ltb, le-ltb}
use Rattle.std.specs.Prelude.{nat_lt}
use Rattle.jav_names.specs.Leftmost.{leftmost_class}
use Rattle.mol_base.specs.declared.ident.Id.{Id}
use Rattle.mol_resolve_rules.specs.ReadTrees.{ClassPath, whole_path, front_path, no_path, path_by}

module _ (count spelling : ℕ) (class : Id) where
  abbrev so_many : ClassPath Id
  so_many = path_by {M = Id} count (leftmost_class class spelling)

  abbrev path_when : Bool → Bool → ClassPath Id
  path_when same further = cond same (whole_path class) (cond further front_path no_path)

  pub path-whole : spelling ≡ count → whole_path class ≡ so_many
  path-whole is = ap (λ same. path_when same (nat_lt count spelling)) (sym (eq-eqb spelling count is))

  pub path-front : spelling ≢ count → count < spelling → front_path ≡ so_many
  path-front apart fewer = λ i. path_when (sym (ne_eqb spelling count apart) i) (sym (lt-ltb count spelling fewer) i)

  pub path-none : spelling ≢ count → spelling ≤ count → no_path ≡ so_many
  path-none apart more = λ i. path_when (sym (ne_eqb spelling count apart) i) (sym (le-ltb count spelling more) i)
