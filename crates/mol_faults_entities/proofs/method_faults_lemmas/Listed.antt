-- Lists of the faults of methods.
use Rattle.std.proofs.Common.{◌≡◌, ℕ, ◌+◌, ◌<◌, Bool, true, false, cond, List, [], ◌∷◌, ◌++◌, take, length, get_or, filter_map, Option, Some, None, refl, sym, ◌∙◌, ap, subst, Less}
use Rattle.std.specs.Prelude.{IsTrue, is_some}
use Rattle.std.specs.FinMap.{get}
use Rattle.std.specs.List.{AllByRecursion, cons_option}
use Rattle.std.specs.List.Sorted.{IsStrictlySortedBy}
use Rattle.std.specs.Option.{option_to_list}
use Rattle.std.proofs.lemmas.List.{take_more}
use Rattle.std.proofs.lemmas.List.Elements.{filter_map-append}
use Rattle.std.proofs.lemmas.Map.Keys.{sorted_from_all_adjacent}
use Rattle.mol_base.specs.Order.{id_cmp, id_cmp-total}
use Rattle.mol_base.specs.declared.ident.Id.{Id}
use Rattle.mol_faults_rules.specs.OfKind.{AreOfKind}
use Rattle.mol_resolve_rules.proofs.Stands.{in_some, from_some}
use Rattle.mol_spell_rules.specs.FaultList.{Fault, IsFault, fault_key, fault_cmp, no_id}
use Rattle.mol_table_rules.proofs.Counts.{none-some, some-same}
use Rattle.mol_table_rules.specs.Identities.{IsAscending, AreKnown}
use Rattle.mol_table_rules.specs.Program.{Program}

module _ (make : Id → Fault) (test : Id → Bool) where
  -- the fault of an identity, if it has one
  abbrev pub fault_of : Id → Option Fault
  fault_of id = cond (test id) (Some (make id)) None

  -- one more identity
  pub one-more : (ids : List Id) (i : ℕ) (id : Id) → i < length ids → id ≡ get_or ids i id
      → filter_map fault_of (take (i + 1) ids) ≡ filter_map fault_of (take i ids) ++ option_to_list (fault_of id)
  one-more ids i id within is =
      ap (filter_map fault_of) (take_more ids i id within) ∙ filter_map-append fault_of (take i ids) (get_or ids i id ∷ [])
      ∙ ap (λ x. filter_map fault_of (take i ids) ++ filter_map fault_of (x ∷ [])) (sym is)
      ∙ ap (λ faults. filter_map fault_of (take i ids) ++ faults) (alone (fault_of id)) where
        alone : (o : Option Fault) → cons_option o [] ≡ option_to_list o
        alone None = refl
        alone (Some fault) = refl

  module _ (less : (first second : Id) → id_cmp first second ≡ Less → fault_cmp (make first) (make second) ≡ Less) where
    behind : (first : Id) (ids : List Id) → AllByRecursion (λ id. id_cmp first id ≡ Less) ids
        → AllByRecursion (λ fault. fault_cmp (make first) fault ≡ Less) (filter_map fault_of ids)
    behind first [] all = tt
    behind first (id ∷ ids) all = by (test id) (behind first ids all.1) where
      by : (b : Bool) → AllByRecursion (λ fault. fault_cmp (make first) fault ≡ Less) (filter_map fault_of ids)
          → AllByRecursion (λ fault. fault_cmp (make first) fault ≡ Less)
          (cons_option (cond b (Some (make id)) None) (filter_map fault_of ids))
      by true rest = (less first id all.0, rest)
      by false rest = rest

    ascends-on : (id : Id) (faults : List Fault) (b : Bool) → AllByRecursion (λ fault. fault_cmp (make id) fault ≡ Less) faults
        → IsStrictlySortedBy fault_cmp faults → IsStrictlySortedBy fault_cmp (cons_option (cond b (Some (make id)) None) faults)
    unfolding IsStrictlySortedBy
    ascends-on id faults true first up = (first, up)
    ascends-on id faults false first up = up

    ascends : (ids : List Id) → IsStrictlySortedBy id_cmp ids → IsStrictlySortedBy fault_cmp (filter_map fault_of ids)
    unfolding IsStrictlySortedBy
    ascends [] up = tt
    ascends (id ∷ ids) up = ascends-on id (filter_map fault_of ids) (test id) (behind id ids up.0) (ascends ids up.1)

    module _ (program : Program) (kind : ℕ)
        (are : (id : Id) → test id ≡ true → IsFault program (make id) × ((fault_key (make id)).kind ≡ kind))
        (whose : (fault : Fault) → IsFault program fault → (fault_key fault).kind ≡ kind
        → (id : Id) × (make id ≡ fault) × (test id ≡ true) × IsTrue (is_some (get program.known id)))
        (ids : List Id) (ascending : IsAscending ids) (known : AreKnown program ids) where
      is-fault : (id : Id) (fault : Fault) (b : Bool) → test id ≡ b → cond b (Some (make id)) None ≡ Some fault
          → IsFault program fault × ((fault_key fault).kind ≡ kind)
      is-fault id fault true passes is =
          subst (λ f. IsFault program f × ((fault_key f).kind ≡ kind)) (some-same (make id) fault is) (are id passes)
      is-fault id fault false fails is = absurd (none-some fault is)

      -- the faults of all known identities are all of the kind
      pub of-kind : AreOfKind program kind (filter_map fault_of ids)
      of-kind = record {
        ascending = ascends ids (sorted_from_all_adjacent id_cmp-total ids no_id (λ k within. ascending k no_id within));
        each = λ fault. (
          λ stands. let from = from_some fault_of ids fault stands in is-fault from.0 fault (test from.0) refl from.2,
          λ is. let of = whose fault is.0 is.1 in
              in_some fault_of ids of.0 fault ((known of.0).1 of.3) (ap (λ b. cond b (Some (make of.0)) None) of.2 ∙ ap (λ f. Some f) of.1),
        );
      }
