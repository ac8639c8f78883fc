-- Names with dots between them, one after the other: what they begin with stays the same.
use Rattle.std.proofs.Common.{◌≡◌, ℕ, suc, ◌+◌, ◌-◌, ◌==◌, Bool, true, false, [], ◌∷◌, ◌++◌, length, length-append, append_assoc, Option, Some, None, refl, sym, ap, ◌∙◌, arith, if◌then◌else◌, nat_lt}
use Rattle.jav_names.specs.DottedNames.{Name, Names, Dotted}
use Rattle.jav_names.specs.Leftmost.{Leftmost, leftmost_variable, leftmost_class, leftmost_import, leftmost_outside}
use Rattle.jav_names.specs.LookUps.{leftmost}
use Rattle.jav_names.specs.UnitViews.{MemberKey}
use Rattle.mol_resolve_readings.specs.reads.Chains.{chain_by, chain_of, before_last, path_in, view_path}
use Rattle.mol_resolve_readings.specs.declared.reads.chain.Chain.{Chain}
use Rattle.mol_resolve_readings.specs.declared.reads.chain.Chain.TheVariants as chain
use Rattle.mol_resolve_readings.specs.declared.reads.chain.ClassPath.{ClassPath as Path}
use Rattle.mol_resolve_readings.specs.declared.reads.chain.ClassPath.TheVariants as path
use Rattle.mol_resolve_rules.specs.Locals.{Locals}
use Rattle.mol_resolve_rules.specs.Readers.{Reader, place_of}
use Rattle.mol_resolve_rules.specs.ReadTrees.{longer, path_by, path_of, whole_path, front_path, no_path}

path_by-kept : (count : ℕ) (front : Leftmost ℕ MemberKey) → view_path (path_in (chain_by count front)) ≡ path_by count front
path_by-kept count (leftmost_variable variable) = refl
path_by-kept count (leftmost_import import) = refl
path_by-kept count leftmost_outside = refl
path_by-kept count (leftmost_class class spelling) = by (spelling == count) (nat_lt count spelling) where
  by : (whole front : Bool) → view_path (if whole then path.Whole class else if front then path.Front else path.NoPath)
      ≡ (if whole then whole_path class else if front then front_path else no_path)
  by true front = refl
  by false true = refl
  by false false = refl

less : (count : ℕ) (front : Leftmost ℕ MemberKey) → before_last (chain_by (suc count) front) ≡ chain_by count front
less count (leftmost_variable variable) = refl
less count (leftmost_import import) = refl
less count leftmost_outside = refl
less count (leftmost_class class spelling) = ap (λ count. chain.Class class spelling count) (omega arith)

module _ (reader : Reader ℕ MemberKey) (locals : Locals ℕ) where
  pub path_kept : (names : Option Dotted) (follow : Names)
      → view_path (path_in (chain_of reader locals names follow)) ≡ path_of reader locals names follow
  path_kept None follow = refl
  path_kept (Some names) follow =
      path_by-kept (suc (length names.rest)) (leftmost reader.view (place_of reader locals) names.first (names.rest ++ follow))

  pub before_last-is : (names : Option Dotted) (name : Name) (follow : Names)
      → before_last (chain_of reader locals (longer name names) follow) ≡ chain_of reader locals names (name ∷ follow)
  before_last-is None name follow = refl
  before_last-is (Some names) name follow =
      let front : Names → Leftmost ℕ MemberKey = leftmost reader.view (place_of reader locals) names.first in
      let further : length (names.rest ++ name ∷ []) ≡ suc (length names.rest) =
      let l = length-append names.rest (name ∷ []) in omega arith
      in
      (λ i. before_last (chain_by (suc (further i)) (front (append_assoc names.rest (name ∷ []) follow i))))
      ∙ less (suc (length names.rest)) (front (names.rest ++ name ∷ follow))

  -- what stands before the last of the names
  pub path_before : (names : Option Dotted) (name : Name) (follow : Names) (whole : Chain) (path : Path)
      → whole ≡ chain_of reader locals (longer name names) follow → path ≡ path_in (before_last whole)
      → path_of reader locals names (name ∷ follow) ≡ view_path path
  path_before names name follow whole path is path_is =
      sym (path_kept names (name ∷ follow))
      ∙ ap (λ front. view_path (path_in front)) (sym (before_last-is names name follow) ∙ ap before_last (sym is)) ∙ ap view_path (sym path_is)

  pub chain_before : (names : Option Dotted) (name : Name) (follow : Names) (whole : Chain)
      → whole ≡ chain_of reader locals (longer name names) follow → before_last whole ≡ chain_of reader locals names (name ∷ follow)
  chain_before names name follow whole is = ap before_last is ∙ before_last-is names name follow

  pub path_here : (names : Option Dotted) (follow : Names) (whole : Chain) (path : Path) → whole ≡ chain_of reader locals names follow
      → path ≡ path_in whole → path_of reader locals names follow ≡ view_path path
  path_here names follow whole path is path_is =
      sym (path_kept names follow) ∙ ap (λ front. view_path (path_in front)) (sym is) ∙ ap view_path (sym path_is)
