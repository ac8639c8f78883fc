-- Worked conflicts: two logs rename one class; one log deletes the declaration of a method and the other one calls it.
-- Then what is no conflict: a class that is dead after both logs, and one that both rename alike.
use Rattle.std.proofs.Common.{◌≡◌, ◌∙◌, refl, sym, ap, true≢false, ℕ, false, List, [], ◌∷◌, Option, None, Some, Less}
use Rattle.std.specs.FinMap.{get, insert, get-insert}
use Rattle.std.specs.Prelude.{◌&&◌, codes, is_some, IsFalse}
use Rattle.mol_base.specs.declared.ident.Id.{Id}
use Rattle.mol_base.specs.declared.ident.Stamp.{Stamp}
use Rattle.mol_faults_rules.specs.declared.conflict.ConflictKind.TheVariants.{Twice}
use Rattle.mol_log_rules.specs.Histories.{Stamped, History, after}
use Rattle.mol_merge_rules.specs.Conflicts.{pair_kind, pair_stamps, gone_stamps}
use Rattle.mol_merge_rules.specs.PairConflicts.{Pair, twice, gone_changed, gone_used, pair_cmp, IsTwice, IsGonePair, changed, used}
use Rattle.mol_merge_rules.specs.PairConflicts.{IsPair, set_twice, gone_after_one, gone_after_other}
use Rattle.mol_op.specs.Changes.{Write}
use Rattle.mol_table_rules.proofs.CellOrder.{cell_cmp-total}
use Rattle.mol_table_rules.specs.Life.{entity_in, lives_as, is_living_entity}
use Rattle.mol_table_rules.specs.Program.{Program, cell, is_yes}
use Rattle.mol_values_types.specs.declared.cell.Cell.{Cell}
use Rattle.mol_values_types.specs.declared.cell.Slot.TheVariants as slots
use Rattle.mol_values_types.specs.declared.known.Known.{Known}
use Rattle.mol_values_types.specs.declared.known.Known.TheVariants as knowns
use Rattle.mol_values_types.specs.declared.value.Value.{Value}
use Rattle.mol_values_types.specs.declared.value.Value.TheVariants as values

abbrev of_base : ℕ → Id
of_base num = record { tag = []; num = num }

abbrev stamp : List ℕ → ℕ → Stamp
stamp tag seq = record { tag = tag; seq = seq }

-- an entry that makes nothing known
abbrev writing : Stamp → List Write → Stamped
writing stamp writes = record { stamp = stamp; change = record { fault = λ known. None; writes = writes; names = [] } }

-- ---- a class that both rename

abbrev class_name : Cell
class_name = cell (of_base 1) slots.Name

abbrev renamed : Stamp → List ℕ → Stamped
renamed stamp name = writing stamp ((class_name, values.Name name) ∷ [])

abbrev to_basket : History
to_basket = renamed (stamp (codes "ann") 1) (codes "Basket") ∷ []

abbrev to_bag : History
to_bag = renamed (stamp (codes "bob") 1) (codes "Bag") ∷ []

two_names : pair_kind to_basket to_bag (twice class_name)
    ≡ Some (Twice class_name (values.Name (codes "Basket")) (values.Name (codes "Bag")))
two_names = refl

two_stamps : (base : Program) → pair_stamps base to_basket to_bag (twice class_name) ≡ stamp (codes "ann") 1 ∷ stamp (codes "bob") 1 ∷ []
two_stamps base = refl

-- the other way round the values do not change places
turned_names : pair_kind to_bag to_basket (twice class_name) ≡ pair_kind to_basket to_bag (twice class_name)
turned_names = refl

turned_stamps : (base : Program) → pair_stamps base to_bag to_basket (twice class_name)
    ≡ pair_stamps base to_basket to_bag (twice class_name)
turned_stamps base = refl

-- A log of `ann` and `zed` goes before one of `bob`, by its first tag. Where `zed` wrote last, the value of `bob` is the first one.
abbrev of_two_tags : History
of_two_tags = renamed (stamp (codes "ann") 1) (codes "Case") ∷ renamed (stamp (codes "zed") 4) (codes "Basket") ∷ []

by_stamps : pair_kind of_two_tags to_bag (twice class_name)
    ≡ Some (Twice class_name (values.Name (codes "Bag")) (values.Name (codes "Basket")))
by_stamps = refl

stamps_ascend : (base : Program) → pair_stamps base of_two_tags to_bag (twice class_name)
    ≡ stamp (codes "bob") 1 ∷ stamp (codes "zed") 4 ∷ []
stamps_ascend base = refl

-- where one of the two does not write the cell, it is in no conflict
not_both : pair_kind to_basket [] (twice class_name) ≡ None
not_both = refl

-- ---- a method that is gone, and is used

abbrev method : Id
method = of_base 12

abbrev body : Cell
body = cell (of_base 10) slots.Body

-- `ann@3` deletes the one declaration of the method, and `ann@4` another member
abbrev deleted : History
deleted =
    writing (stamp (codes "ann") 3) ((cell (of_base 6) slots.Live, values.Live false) ∷ [])
    ∷ writing (stamp (codes "ann") 4) ((cell (of_base 8) slots.Live, values.Live false) ∷ [])
    ∷ []

abbrev set : History
set = writing (stamp (codes "bob") 1) ((body, values.Body None) ∷ []) ∷ []

-- the member is known as no declaration of the method
gone_by : (base : Program) → get base.known (of_base 6) ≡ Some (knowns.Decl method) → get base.known (of_base 8) ≡ Some knowns.Field
    → gone_stamps base deleted method (Some (stamp (codes "bob") 1)) ≡ stamp (codes "ann") 3 ∷ stamp (codes "bob") 1 ∷ []
gone_by base declares is_field = rw (declares, is_field)

dead_first : (base : Program) → IsFalse (is_living_entity (after base deleted) method)
    → pair_stamps base deleted set (gone_used method body) ≡ gone_stamps base deleted method (Some (stamp (codes "bob") 1))
dead_first base dead = rw dead

-- in the order of the kinds, then of the identities
order_of_kinds : pair_cmp (twice (cell (of_base 9) slots.Name)) (gone_changed (of_base 2)) ≡ Less
order_of_kinds = refl

order_of_identities : pair_cmp (gone_used (of_base 2) (cell (of_base 9) slots.Body)) (gone_used (of_base 3) (cell (of_base 1) slots.Body))
    ≡ Less
order_of_identities = refl

-- ---- what is no pair

-- what a pair of this form has to be
abbrev asked : Program → History → History → Pair → Type 0
asked base one other (twice at) = IsTwice base one other at
asked base one other pair = Unit {0}

asked-gone : (base : Program) (one other first second : History) (pair : Pair) → IsGonePair base one other pair
    → asked base first second pair
asked-gone base one other first second pair (changed at gone some) = tt
asked-gone base one other first second pair (used gone lives is mentions) = tt

asked-of : (base : Program) (one other : History) (pair : Pair) → IsPair base one other pair → asked base one other pair
asked-of base one other pair (set_twice is) = is
asked-of base one other pair (gone_after_one is) = asked-gone base one other one other pair is
asked-of base one other pair (gone_after_other is) = asked-gone base other one one other pair is

-- both logs rename the class, each to a name of its own, and delete it then
abbrev closed : List ℕ → List ℕ → History
closed tag name = renamed (stamp tag 1) name ∷ writing (stamp tag 2) ((cell (of_base 1) slots.Live, values.Live false) ∷ []) ∷ []

dead : (base : Program) (tag name : List ℕ) → get base.known (of_base 1) ≡ Some knowns.Class
    → is_living_entity (after base (closed tag name)) (of_base 1) ≡ false
dead base tag name known =
    ap (λ (o : Option Known). is_some (entity_in o) && lives_as (after base (closed tag name)) (of_base 1) o) known
    ∙ ap is_yes (get-insert cell_cmp-total (insert base.cells class_name (values.Name name)) (cell (of_base 1) slots.Live)
    (values.Live false) (cell (of_base 1) slots.Live))

-- so it has two names, but is dead after both
dead_after_both : (base : Program) → get base.known (of_base 1) ≡ Some knowns.Class
    → ¬ IsPair base (closed (codes "ann") (codes "Basket")) (closed (codes "bob") (codes "Bag")) (twice class_name)
dead_after_both base known is =
    let both = asked-of base (closed (codes "ann") (codes "Basket")) (closed (codes "bob") (codes "Bag")) (twice class_name) is in
    true≢false (sym both.lives_one ∙ dead base (codes "ann") (codes "Basket") known)

-- both rename the class to one name
abbrev to_basket_too : History
to_basket_too = renamed (stamp (codes "bob") 1) (codes "Basket") ∷ []

abbrev held : Option Value → Value
held None = values.Body None
held (Some value) = value

one_name : (base : Program) → ¬ IsPair base to_basket to_basket_too (twice class_name)
one_name base is =
    let both = asked-of base to_basket to_basket_too (twice class_name) is in
    both.differ (ap held (sym both.last_one ∙ both.last_other))
