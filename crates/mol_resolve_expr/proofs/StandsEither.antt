-- An expression stands alone or before a dot: what it is shown to come to where it stands so.
use Rattle.std.proofs.Common.{◌≡◌, ℕ, Option, Some, None}
use Rattle.jav_names.specs.DottedNames.{Names, Dotted}
use Rattle.jav_names.specs.UnitViews.{MemberKey}
use Rattle.mol_resolve_expr.specs.Stands.{stand_of}
use Rattle.mol_resolve_expr.specs.declared.stand.Stand.TheVariants as stand
use Rattle.mol_resolve_readings.specs.reads.Chains.{chain_of}
use Rattle.mol_resolve_readings.specs.declared.reads.chain.Chain.{Chain}
use Rattle.mol_resolve_rules.specs.Locals.{Locals}
use Rattle.mol_resolve_rules.specs.Readers.{Reader}
use Rattle.mol_resolve_rules.specs.ReadTrees.{Mode}

module _ (reader : Reader ℕ MemberKey) (locals : Locals ℕ) (P : Mode → Type 0) (names : Option Dotted) where
  pub where_alone : (mode : Mode) → stand.Alone ≡ stand_of reader locals names mode → P None → P mode
  where_alone None is p = p
  where_alone (Some follow) is p = absurd cc

  pub where_before : (chain : Chain) (mode : Mode) → stand.Before chain ≡ stand_of reader locals names mode
      → ((follow : Names) → chain ≡ chain_of reader locals names follow → P (Some follow)) → P mode
  where_before chain None is p = absurd cc
  where_before chain (Some follow) is p = let same : chain ≡ chain_of reader locals names follow = cc in p follow same
