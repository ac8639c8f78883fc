-- The faults of a member beside others, kind by kind (JLS 8.3, 8.4.2, 8.4.8, 8.8.2).
use Rattle.std.specs.Prelude.{ℕ, Bool, List, Option, if◌then◌else◌}
use Rattle.std.specs.List.{list_any}
use Rattle.jav_names.specs.Views.{View}
use Rattle.mol_resolve_faults.specs.First.{noted}
use Rattle.mol_resolve_rules.specs.FaultKinds.{FaultKind, duplicate_member, overload_by_type, result_differs, static_hidden}
use Rattle.mol_resolve_rules.specs.FaultLists.{is_between}
use Rattle.mol_resolve_rules.specs.Files.{Files, files_view}
use Rattle.mol_resolve_rules.specs.MemberFaults.{Row}
use Rattle.mol_resolve_rules.specs.Outcomes.{TreeFault}

-- this fault is between one of these and the last
abbrev pub is_faulty : {C M : Type 0} → View C M → List (Row C) → Row C → FaultKind → Bool
is_faulty view firsts second kind = list_any (λ first. is_between view first second kind) firsts

-- a fault of this kind and place is noted where it holds
abbrev pub noted_if : Bool → FaultKind → ℕ → Option TreeFault → Option TreeFault
noted_if holds kind at first = if holds then noted first (record { kind = kind; at = at }) else first

-- which of the four faults between members a member has
pub record Faulty : Type 0 where
  pub duplicate : Bool
  pub overload : Bool
  pub result : Bool
  pub static : Bool

abbrev pub faulty_beside : Files → List (Row ℕ) → Row ℕ → Faulty
faulty_beside files firsts second = record {
  duplicate = is_faulty (files_view files) firsts second duplicate_member;
  overload = is_faulty (files_view files) firsts second overload_by_type;
  result = is_faulty (files_view files) firsts second result_differs;
  static = is_faulty (files_view files) firsts second static_hidden;
}

-- they are noted at this place
abbrev pub faulty_noted : Faulty → ℕ → Option TreeFault → Option TreeFault
faulty_noted faulty at first =
    noted_if faulty.static static_hidden at (noted_if faulty.result result_differs at
    (noted_if faulty.overload overload_by_type at (noted_if faulty.duplicate duplicate_member at first)))
