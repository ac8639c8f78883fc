-- What the faults of a member beside others ask of these (JLS 8.3, 8.4.2, 8.4.8, 8.8.2).
use Rattle.std.specs.Prelude.{ℕ, nat_lt, Bool, false, ◌&&◌, ◌||◌, not, List}
use Rattle.std.specs.List.{list_any}
use Rattle.std.specs.Ordering.{nat_cmp}
use Rattle.std.specs.Str.{bytes_eq}
use Rattle.jav_names.specs.StaticTypes.{same_type}
use Rattle.mol_resolve_rules.specs.FaultLists.{same_kind, same_types, take_as_many}
use Rattle.mol_resolve_rules.specs.MemberFaults.{MemberKind, a_field, a_method, a_constructor, Row}
use Rattle.mol_resolve_faults.specs.beside.Beside.{Faulty}

abbrev pub takes_same : (first second : Row ℕ) → Bool
takes_same first second = same_types nat_cmp first.params second.params

abbrev pub gives_same : (first second : Row ℕ) → Bool
gives_same first second = same_type nat_cmp first.type second.type

-- of one kind and name, with as many parameters
abbrev pub are_namesakes : MemberKind → (first second : Row ℕ) → Bool
are_namesakes kind first second = same_kind first.kind kind && (take_as_many first second && bytes_eq first.name second.name)

-- the first stands before the second
abbrev pub is_before : (first second : Row ℕ) → Bool
is_before first second = nat_lt first.place second.place

abbrev pub repeats : (first second : Row ℕ) → Bool
repeats first second =
    is_before first second && ((same_kind first.kind second.kind && bytes_eq first.name second.name) && takes_same first second)

-- an earlier namesake of this kind takes other types
abbrev pub overloads : MemberKind → List (Row ℕ) → Row ℕ → Bool
overloads kind firsts second =
    list_any (λ first. are_namesakes kind first second && (is_before first second && not (takes_same first second))) firsts

abbrev pub differs : List (Row ℕ) → Row ℕ → Bool
differs firsts second =
    list_any (λ first. are_namesakes a_method first second && (is_before first second && not (gives_same first second))) firsts

-- beside those of its class
abbrev pub faulty_here : MemberKind → List (Row ℕ) → Row ℕ → Faulty
faulty_here a_field firsts second = record {
  duplicate = list_any (λ first. repeats first second) firsts;
  overload = false;
  result = false;
  static = false;
}
faulty_here a_method firsts second = record {
  duplicate = list_any (λ first. repeats first second) firsts;
  overload = overloads a_method firsts second;
  result = differs firsts second;
  static = false;
}
faulty_here a_constructor firsts second = record {
  duplicate = list_any (λ first. repeats first second) firsts;
  overload = overloads a_constructor firsts second;
  result = false;
  static = false;
}

-- beside those of an ancestor of its class
abbrev pub faulty_below : MemberKind → List (Row ℕ) → Row ℕ → Faulty
faulty_below a_method firsts second = record {
  duplicate = false;
  overload = list_any (λ first. are_namesakes a_method first second && not (takes_same first second)) firsts;
  result = list_any (λ first. are_namesakes a_method first second && not (gives_same first second)) firsts;
  static = list_any (λ first. are_namesakes a_method first second && (first.is_static || second.is_static)) firsts;
}
faulty_below a_field firsts second = record { duplicate = false; overload = false; result = false; static = false }
faulty_below a_constructor firsts second = record { duplicate = false; overload = false; result = false; static = false }
