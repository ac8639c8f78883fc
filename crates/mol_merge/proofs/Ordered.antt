-- The order of two logs.
use Rattle.std.proofs.Common.{◌≡◌, sym, subst, Bool, true, false}
use Rattle.std.specs.Prelude.{if◌then◌else◌}
use Rattle.mol_log.specs.declared.log.Log.{Log}
use Rattle.mol_merge_rules.specs.TwoLogs.{comes_first, lesser, greater}

module _ (P : Log → Log → Type 0) (first second : Log) where
  -- what is said of a log and the other is said of the lesser and the greater, where the first one comes first
  pub as-given : comes_first first second ≡ true → P first second → P (lesser first second) (greater first second)
  as-given e is = subst (λ (b : Bool). P (if b then first else second) (if b then second else first)) (sym e) is

  -- and of the second one and the first, where it does not
  pub as-turned : comes_first first second ≡ false → P second first → P (lesser first second) (greater first second)
  as-turned e is = subst (λ (b : Bool). P (if b then first else second) (if b then second else first)) (sym e) is
