-- Each program has a first fault or is clean.
use Rattle.std.proofs.Common.{◌≡◌, ◌⊎◌, inl, inr, ℕ, List, [], ◌∷◌, Contains, refl, sym, ◌∙◌, ap, subst}
use Rattle.std.specs.Ordering.{ordering_reverse}
use Rattle.std.specs.declared.cmp.Ordering.{Ordering}
use Rattle.std.specs.declared.cmp.Ordering.TheVariants.{Less, Equal, Greater}
use Rattle.jav_names.proofs.Lists.{stands_first, stands_later, stands_nowhere, stands_where}
use Rattle.mol_faults_laws.proofs.OfEachKind.{IsAddressFault, IsApartFault, IsLocalFault, IsMissingFault, IsOutsideFault, IsOverrideFault, IsPackageFault, IsReadingFault, absences, addresses, local_clashes, misreadings, outside_names, overrides, packages, parted}
use Rattle.mol_faults_laws.proofs.Listing.{Listed, listed_alike, listed_either}
use Rattle.mol_faults.specs.First.{IsFirstFault}
use Rattle.mol_faults_laws.specs.Laws.{FirstFaultTold}
use Rattle.mol_faults_laws.proofs.FaultOrder.{fault-IsKeyOrder, fault-same, has-none, is-clean}
use Rattle.mol_spell_rules.specs.Clean.{Clean}
use Rattle.mol_spell_rules.specs.FaultList.{Fault, IsFault, apart, by_absence, by_address, by_local, by_outside_name, by_override, by_package, by_place, by_reading, false_override, fault_cmp, fault_key, local_clash, misread, missing, outside_name, package_is_class, same_address}
use Rattle.mol_table_rules.specs.Program.{Program}

-- # All faults

abbrev IsOfSomeKind : Program → Fault → Type 0
IsOfSomeKind program fault = IsAddressFault program fault ⊎ (IsOverrideFault program fault ⊎ (IsApartFault program fault
    ⊎ (IsOutsideFault program fault ⊎ (IsMissingFault program fault ⊎ (IsReadingFault program fault
    ⊎ (IsLocalFault program fault ⊎ IsPackageFault program fault))))))

pub all_faults : (program : Program) → Listed (IsFault program)
all_faults program =
    listed_alike (listed_either (addresses program) (listed_either (overrides program) (listed_either (parted program)
    (listed_either (outside_names program) (listed_either (absences program) (listed_either (misreadings program)
    (listed_either (local_clashes program) (packages program)))))))) to from
  where
    to : (fault : Fault) → IsOfSomeKind program fault → IsFault program fault
    to fault (inl h) = subst (IsFault program) h.3 (by_address h.2)
    to fault (inr (inl h)) = subst (IsFault program) h.3 (by_override h.2)
    to fault (inr (inr (inl h))) = subst (IsFault program) h.2 (by_place h.1)
    to fault (inr (inr (inr (inl h)))) = subst (IsFault program) h.2 (by_outside_name h.1)
    to fault (inr (inr (inr (inr (inl h))))) = subst (IsFault program) h.3 (by_absence h.2)
    to fault (inr (inr (inr (inr (inr (inl h)))))) = subst (IsFault program) h.4 (by_reading h.3)
    to fault (inr (inr (inr (inr (inr (inr (inl h))))))) = subst (IsFault program) h.3 (by_local h.2)
    to fault (inr (inr (inr (inr (inr (inr (inr h))))))) = subst (IsFault program) h.3 (by_package h.2)

    from : (fault : Fault) → IsFault program fault → IsOfSomeKind program fault
    from fault (by_address {first} {second} h) = inl (first, second, h, refl)
    from fault (by_override {first} {second} h) = inr (inl (first, second, h, refl))
    from fault (by_place {method} h) = inr (inr (inl (method, h, refl)))
    from fault (by_outside_name {method} h) = inr (inr (inr (inl (method, h, refl))))
    from fault (by_absence {at} {target} h) = inr (inr (inr (inr (inl (at, target, h, refl)))))
    from fault (by_reading {at} {number} {target} h) = inr (inr (inr (inr (inr (inl (at, number, target, h, refl))))))
    from fault (by_local {at} {name} h) = inr (inr (inr (inr (inr (inr (inl (at, name, h, refl)))))))
    from fault (by_package {class} {inside} h) = inr (inr (inr (inr (inr (inr (inr (class, inside, h, refl)))))))

-- # The first of them

-- one of a list that each other one comes after
record IsLeast (faults : List Fault) : Type 0 where
  pub fault : Fault
  pub stands : Contains faults fault
  pub before_all : (later : Fault) → Contains faults later → (fault ≡ later) ⊎ (fault_cmp fault later ≡ Less)

turned : (x y : Fault) → fault_cmp x y ≡ Greater → fault_cmp y x ≡ Less
turned x y is = fault-IsKeyOrder.total.antisymm (fault_key y) (fault_key x) ∙ ap ordering_reverse is

least : (faults : List Fault) → (faults ≡ []) ⊎ IsLeast faults
least [] = inl refl
least (x ∷ faults) = inr (by (least faults)) where
  alone : faults ≡ [] → (later : Fault) → (x ≡ later) ⊎ Contains faults later → (x ≡ later) ⊎ (fault_cmp x later ≡ Less)
  alone none later (inl same) = inl same
  alone none later (inr stands) = absurd (stands_nowhere later (subst (λ fs. Contains fs later) none stands))

  after : (rest : IsLeast faults) → fault_cmp x rest.fault ≡ Less → (later : Fault) → (x ≡ later) ⊎ Contains faults later
      → (x ≡ later) ⊎ (fault_cmp x later ≡ Less)
  after rest less later (inl same) = inl same
  after rest less later (inr stands) = further (rest.before_all later stands) where
    further : (rest.fault ≡ later) ⊎ (fault_cmp rest.fault later ≡ Less) → (x ≡ later) ⊎ (fault_cmp x later ≡ Less)
    further (inl same) = inr (subst (λ f. fault_cmp x f ≡ Less) same less)
    further (inr more) = inr (fault-IsKeyOrder.total.trans (fault_key x) (fault_key rest.fault) (fault_key later) less more)

  tied : (rest : IsLeast faults) → x ≡ rest.fault → (later : Fault) → (x ≡ later) ⊎ Contains faults later
      → (x ≡ later) ⊎ (fault_cmp x later ≡ Less)
  tied rest same later (inl own) = inl own
  tied rest same later (inr stands) =
      subst (λ f. (f ≡ later) ⊎ (fault_cmp f later ≡ Less)) (sym same) (rest.before_all later stands)

  before : (rest : IsLeast faults) → fault_cmp rest.fault x ≡ Less → (later : Fault) → (x ≡ later) ⊎ Contains faults later
      → (rest.fault ≡ later) ⊎ (fault_cmp rest.fault later ≡ Less)
  before rest less later (inl same) = inr (subst (λ f. fault_cmp rest.fault f ≡ Less) same less)
  before rest less later (inr stands) = rest.before_all later stands

  by_order : (rest : IsLeast faults) (o : Ordering) → fault_cmp x rest.fault ≡ o → IsLeast (x ∷ faults)
  by_order rest Less is = record {
    fault = x;
    stands = stands_first x faults;
    before_all = λ later stands. after rest is later (stands_where x later faults stands);
  }
  by_order rest Equal is =
      let same : x ≡ rest.fault = fault-same x rest.fault (fault-IsKeyOrder.same (fault_key x) (fault_key rest.fault) is) in record {
        fault = x;
        stands = stands_first x faults;
        before_all = λ later stands. tied rest same later (stands_where x later faults stands);
      }
  by_order rest Greater is = record {
    fault = rest.fault;
    stands = stands_later x rest.fault faults rest.stands;
    before_all = λ later stands. before rest (turned x rest.fault is) later (stands_where x later faults stands);
  }

  by : (faults ≡ []) ⊎ IsLeast faults → IsLeast (x ∷ faults)
  by (inl none) = record {
    fault = x;
    stands = stands_first x faults;
    before_all = λ later stands. alone none later (stands_where x later faults stands);
  }
  by (inr rest) = by_order rest (fault_cmp x rest.fault) refl

-- # The law

clean-or-first : (program : Program) → Clean program ⊎ ((fault : Fault) × IsFirstFault program fault)
clean-or-first program = by (least all.items) where
  all : Listed (IsFault program)
  all = all_faults program

  by : (all.items ≡ []) ⊎ IsLeast all.items → Clean program ⊎ ((fault : Fault) × IsFirstFault program fault)
  by (inl none) =
      inl (is-clean program (λ fault is. stands_nowhere fault (subst (λ fs. Contains fs fault) none ((all.each fault).1 is))))
  by (inr first) = inr (
    first.fault,
    record {
      is = (all.each first.fault).0 first.stands;
      before_all = λ later is. first.before_all later ((all.each later).1 is);
    },
  )

one-first : (program : Program) (first second : Fault) → IsFirstFault program first → IsFirstFault program second → first ≡ second
one-first program first second is other = by (is.before_all second other.is) (other.before_all first is.is) where
  by : (first ≡ second) ⊎ (fault_cmp first second ≡ Less) → (second ≡ first) ⊎ (fault_cmp second first ≡ Less) → first ≡ second
  by (inl same) back = same
  by (inr less) (inl same) = sym same
  by (inr less) (inr more) =
      let no : Less ≡ Greater = sym more ∙ fault-IsKeyOrder.total.antisymm (fault_key second) (fault_key first) ∙ ap ordering_reverse less in
      absurd cc

pub first_fault_told : FirstFaultTold
first_fault_told = record {
  either = clean-or-first;
  apart = λ program fault clean first. has-none program clean fault first.is;
  one = one-first;
}
