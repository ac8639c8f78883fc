-- Two declarations are of one method, by their cells, exactly where they share it.
use Rattle.std.proofs.Common.{◌≡◌, ◌≢◌, ◌⊎◌, inl, inr, ℕ, false, ◌&&◌, List, [], ◌∷◌, ◌++◌, reverse, Option, Some, None, unwrap_or, Contains, find, refl, sym, ◌∙◌, ap, subst}
use Rattle.std.specs.Bool.{Decides}
use Rattle.std.specs.Option.{option_or}
use Rattle.std.specs.Ordering.{is_eq}
use Rattle.std.proofs.lemmas.Bool.{and_parts, and_from}
use Rattle.std.proofs.lemmas.List.{reverse-append}
use Rattle.std.proofs.lemmas.List.Elements.{All-contains}
use Rattle.mol_base.specs.declared.ident.Id.{Id}
use Rattle.mol_table_rules.specs.Program.{Program}
use Rattle.mol_values_types.specs.Slots.{has_slot}
use Rattle.mol_values_types.specs.declared.cell.Slot.TheVariants as slots
use Rattle.mol_values_types.specs.declared.known.Known.TheVariants as knowns
use Rattle.mol_values_types.specs.declared.value.Value.{Value}
use Rattle.mol_values_types.specs.declared.value.Value.TheVariants as values
use Rattle.jav_names.specs.Ancestors.{IsAncestor, HasNoCircle}
use Rattle.jav_names.specs.DottedNames.{Name}
use Rattle.jav_names.specs.LookUps.{is_constructor, is_method, nearest, way, ancestors}
use Rattle.jav_names.specs.Members.{IsMethod}
use Rattle.jav_names.specs.Standing.{IsMethodOf}
use Rattle.jav_names.specs.UnitViews.{MemberKey}
use Rattle.jav_names.specs.Views.{DeclarationKind, instance_method, static_method, constructor, ViewDeclaration, View, IsOrdered}
use Rattle.jav_names.proofs.AncestorsFound.{ancestors_known}
use Rattle.jav_names.proofs.Lists.{stands_first, stands_later, stands_where, stands_nowhere, find-found, find-none}
use Rattle.jav_names.proofs.ReadMembers.{method_tests}
use Rattle.jav_names.proofs.Ways.{same_key as keys-decide, is_met-decides}
use Rattle.mol_resolve_rules.specs.Expected.{known_of, value_of}
use Rattle.mol_resolve_rules.specs.FaultKinds.{super_cycle}
use Rattle.mol_resolve_rules.specs.Files.{Files, files_view, declaration_at}
use Rattle.mol_resolve_rules.specs.Laws.{MethodsShared}
use Rattle.mol_resolve_rules.specs.Numbering.{numbered_member, numbered_method, topmost, in_order, id_at, ids_of}
use Rattle.mol_resolve_rules.specs.ReadAs.{SaysValue, HasNoFault, HoldsWhatIsSaid, ShareMethod, method_held, MethodsByName}
use Rattle.mol_resolve_rules.specs.ResolveFaults.{by_superclass}
use Rattle.mol_resolve_rules.proofs.FilesStand.{some-same, files-ordered, stands-found, declaration-made, member-found, member-in_order, method-in_order}
use Rattle.mol_resolve_rules.proofs.NumbersApart.{numbers_apart}
use Rattle.mol_resolve_rules.proofs.Stands.{in_reverse, from_reverse}

-- ---- the first along some classes

module _ {C M : Type 0} (view : View C M) (ordered : IsOrdered view) where
  abbrev Declaration : Type 0
  Declaration = ViewDeclaration C M

  module _ (name : Name) (arity : ℕ) where
    abbrev pub along : List C → Option Declaration
    along classes = nearest view (λ (d : Declaration). d.owner) (is_method name arity) view.declarations classes

    owned : (class : C) (d : Declaration) → Decides (is_method name arity d && is_eq (view.classes.cmp d.owner class))
        (IsMethod name arity d × (d.owner ≡ class))
    owned class d = (
      λ is. let both = and_parts _ _ is in (
        (method_tests name arity d).0 both.0,
        (keys-decide ordered.classes.order d.owner class).0 both.1,
      ),
      λ h. and_from _ _ ((method_tests name arity d).1 h.0) ((keys-decide ordered.classes.order d.owner class).1 h.1),
    )

    abbrev here : C → Option Declaration
    here class = find (λ (d : Declaration). is_method name arity d && is_eq (view.classes.cmp d.owner class)) view.declarations

    along-append : (front back : List C) → along (front ++ back) ≡ option_or (along front) (along back)
    along-append [] back = refl
    along-append (class ∷ front) back = by (here class) (along-append front back) where
      by : (o : Option Declaration) → along (front ++ back) ≡ option_or (along front) (along back)
          → option_or o (along (front ++ back)) ≡ option_or (option_or o (along front)) (along back)
      by None more = more
      by (Some d) more = refl

    -- one that stands along the classes is found, if not a nearer one
    along-some : (classes : List C) (d : Declaration) → Contains view.declarations d → IsMethod name arity d → Contains classes d.owner
        → (t : Declaration) × (along classes ≡ Some t)
    along-some [] d stands is among = absurd (stands_nowhere d.owner among)
    along-some (class ∷ classes) d stands is among =
        by (here class) refl (stands_where class d.owner classes among) (along-some classes d stands is) where
          by : (o : Option Declaration) → here class ≡ o → (class ≡ d.owner) ⊎ Contains classes d.owner
              → (Contains classes d.owner → (t : Declaration) × (along classes ≡ Some t)) → (t : Declaration)
              × (option_or o (along classes) ≡ Some t)
          by (Some t) found place more = (t, refl)
          by None none (inr later) more = more later
          by None none (inl same) more = absurd
              (All-contains (λ (e : Declaration). ¬ (IsMethod name arity e × (e.owner ≡ class))) view.declarations d
              (find-none (λ (e : Declaration). IsMethod name arity e × (e.owner ≡ class))
              (λ (e : Declaration). is_method name arity e && is_eq (view.classes.cmp e.owner class)) (owned class) view.declarations none)
              stands (is, sym same))

    -- and what is found stands along them
    pub record StandsAlong (classes : List C) (t : Declaration) : Type 0 where
      pub stands : Contains view.declarations t
      pub is_method : IsMethod name arity t
      pub among : Contains classes t.owner

    along-stands : (classes : List C) (t : Declaration) → along classes ≡ Some t → StandsAlong classes t
    along-stands [] t is = absurd cc
    along-stands (class ∷ classes) t is = by (here class) refl is (along-stands classes t) where
      first : (e : Declaration) → here class ≡ Some e → e ≡ t → StandsAlong (class ∷ classes) t
      first e found same =
          let is_here = find-found (λ (d : Declaration). IsMethod name arity d × (d.owner ≡ class))
          (λ (d : Declaration). is_method name arity d && is_eq (view.classes.cmp d.owner class)) (owned class) view.declarations t
          (found ∙ ap (λ (d : Declaration). Some d) same) in record {
            stands = is_here.0;
            is_method = is_here.1.0;
            among = subst (Contains (class ∷ classes)) (sym is_here.1.1) (stands_first class classes);
          }

      by : (o : Option Declaration) → here class ≡ o → option_or o (along classes) ≡ Some t
          → (along classes ≡ Some t → StandsAlong classes t) → StandsAlong (class ∷ classes) t
      by None none is more =
          let later = more is in record {
            stands = later.stands;
            is_method = later.is_method;
            among = stands_later class t.owner classes later.among;
          }
      by (Some e) found is more = first e found (let same : e ≡ t = cc in same)

  -- ---- the topmost declaration

  not_constructor : (kind : DeclarationKind) → kind ≢ constructor → is_constructor kind ≡ false
  not_constructor instance_method differs = refl
  not_constructor static_method differs = refl
  not_constructor constructor differs = absurd (differs refl)

  -- from the top of the way from a class down
  abbrev downward : C → Name → ℕ → Option Declaration
  downward class name arity = along name arity (reverse (way view class))

  topmost-is : (d : Declaration) → d.kind ≢ constructor → topmost view d ≡ unwrap_or (downward d.owner d.name d.arity) d
  topmost-is d method = rw (not_constructor d.kind method) refl

  on_way : (class above : C) → (above ≡ class) ⊎ IsAncestor view class above → Contains (way view class) above
  on_way class above (inl same) = subst (λ classes. Contains classes above) (sym ((ancestors_known C M).ways_begin view class))
      (subst (Contains (class ∷ ancestors view class)) (sym same) (stands_first class (ancestors view class)))
  on_way class above (inr up) = subst (λ classes. Contains classes above) (sym ((ancestors_known C M).ways_begin view class))
      (stands_later class above (ancestors view class)
      ((is_met-decides view.classes ordered.classes (ancestors view class) above).0
      (((ancestors_known C M).tested view class above ordered.classes).1 up)))

  from_way : (class above : C) → Contains (way view class) above → (above ≡ class) ⊎ IsAncestor view class above
  from_way class above stands =
      by (stands_where class above (ancestors view class)
      (subst (λ classes. Contains classes above) ((ancestors_known C M).ways_begin view class) stands)) where
        by : (class ≡ above) ⊎ Contains (ancestors view class) above → (above ≡ class) ⊎ IsAncestor view class above
        by (inl same) = inl (sym same)
        by (inr later) = inr ((ancestors_known C M).listed view class above ordered.classes later)

  self : (d : Declaration) → Contains view.declarations d → d.kind ≢ constructor → IsMethodOf view d.owner d.name d.arity d
  self d stands method = record { stands = stands; is_method = record { is_method = method; named = refl; takes = refl }; owned = inl refl }

  module _ (no_circle : HasNoCircle view) where
    way-ends : (class above : C) → (above ≡ class) ⊎ IsAncestor view class above
        → (nearer : List C) × (way view class ≡ nearer ++ way view above)
    way-ends class above (inl same) = ([], ap (way view) (sym same))
    way-ends class above (inr up) = (ancestors_known C M).ways_end view class above ordered.classes no_circle up

    -- from the top down the same is met first on the way from a class as on that from an owner above it
    met_first : (class : C) (name : Name) (arity : ℕ) (above : Declaration) → IsMethodOf view class name arity above
        → (t : Declaration) × (downward class name arity ≡ Some t) × (downward above.owner name arity ≡ Some t)
    met_first class name arity above below =
        let some = along-some name arity (reverse (way view above.owner)) above below.stands below.is_method
        (in_reverse (way view above.owner) above.owner (on_way above.owner above.owner (inl refl))) in
        let ends = way-ends class above.owner below.owned in (
          some.0,
          ap (λ classes. along name arity (reverse classes)) ends.1
              ∙ ap (along name arity) (reverse-append ends.0 (way view above.owner))
              ∙ along-append name arity (reverse (way view above.owner)) (reverse ends.0)
              ∙ ap (λ (o : Option Declaration). option_or o (along name arity (reverse ends.0))) some.1,
          some.1,
        )

    pub topmost-below : (d : Declaration) → Contains view.declarations d → d.kind ≢ constructor
        → IsMethodOf view d.owner d.name d.arity (topmost view d)
    topmost-below d stands method =
        let found = met_first d.owner d.name d.arity d (self d stands method) in
        let along = along-stands d.name d.arity (reverse (way view d.owner)) found.0 found.1 in
        let is : topmost view d ≡ found.0 = topmost-is d method ∙ ap (λ (o : Option Declaration). unwrap_or o d) found.1 in
        subst (IsMethodOf view d.owner d.name d.arity) (sym is)
        (record {
          stands = along.stands;
          is_method = along.is_method;
          owned = from_way d.owner found.0.owner (from_reverse (way view d.owner) found.0.owner along.among);
        })

    pub one_topmost : (d e above : Declaration) → d.kind ≢ constructor → e.kind ≢ constructor → d.name ≡ e.name → d.arity ≡ e.arity
        → IsMethodOf view d.owner d.name d.arity above → IsMethodOf view e.owner e.name e.arity above → topmost view d ≡ topmost view e
    one_topmost d e above method second named as_many below other =
        let found = met_first d.owner d.name d.arity above below in
        let found_other = met_first e.owner e.name e.arity above other in
        let same : found.0 ≡ found_other.0
        = some-same (sym found.2 ∙ (λ i. downward above.owner (named i) (as_many i)) ∙ found_other.2) in
        topmost-is d method ∙ ap (λ (o : Option Declaration). unwrap_or o d) found.1 ∙ same
        ∙ sym (topmost-is e second ∙ ap (λ (o : Option Declaration). unwrap_or o e) found_other.1)

    pub topmost-itself : (d : Declaration) → Contains view.declarations d → d.kind ≢ constructor
        → topmost view (topmost view d) ≡ topmost view d
    topmost-itself d stands method =
        let below = topmost-below d stands method in
        one_topmost (topmost view d) d (topmost view d) below.is_method.is_method method below.is_method.named below.is_method.takes
        (self (topmost view d) below.stands below.is_method.is_method) below

-- ---- in files

says-method : (method : Id) (said held : Value) → said ≡ values.Method method → SaysValue said held → held ≡ values.Method method
says-method method said held is SaysValue.equal_value = is
says-method method said held is (SaysValue.says_super says) = absurd cc
says-method method said held is (SaysValue.says_result says) = absurd cc
says-method method said held is (SaysValue.says_params says) = absurd cc
says-method method said held is (SaysValue.says_body says) = absurd cc
says-method method said held is (SaysValue.says_value type init) = absurd cc

one_method : {first second : Id} → values.Method first ≡ values.Method second → first ≡ second
one_method is = cc

one_key : {first second : MemberKey} → numbered_method first ≡ numbered_method second → first ≡ second
one_key is = cc

module _ (files : Files) (program : Program) (no_fault : HasNoFault files) (holds : HoldsWhatIsSaid files program) where
  no_circle : HasNoCircle (files_view files)
  no_circle class leads = no_fault super_cycle class 0 (by_superclass leads)

  abbrev topmost_of : ViewDeclaration ℕ MemberKey → ViewDeclaration ℕ MemberKey
  topmost_of = topmost (files_view files)

  -- the cell of a declaration holds the number of its topmost declaration
  held-is : (d : ViewDeclaration ℕ MemberKey) → Contains (files_view files).declarations d
      → method_held files program d ≡ Some (values.Method (id_at files (numbered_method (topmost_of d).key)))
  held-is d stands =
      let made = declaration-made files d stands in
      let known : known_of files (numbered_member d.key) ≡ Some (knowns.Decl ((ids_of files).method_id d))
      = rw (member-found files d.key made.at, stands-found files d stands) refl in
      let said : value_of files (numbered_member d.key) slots.Method ≡ Some (values.Method ((ids_of files).method_id d))
      = rw (member-found files d.key made.at, stands-found files d stands) refl in
      let cell = holds (numbered_member d.key) (member-in_order files d.key made.at) slots.Method
      (ap (λ known. has_slot known slots.Method) known) in
      let text : cell.text ≡ values.Method ((ids_of files).method_id d) = some-same (sym cell.says ∙ said) in
      cell.holds ∙ ap (λ value. Some value) (says-method ((ids_of files).method_id d) cell.text cell.held text cell.agree)

  shared : MethodsByName files program
  shared first second stands-first stands-second method-first method-second = (from_cells, to_cells) where
    below-first : IsMethodOf (files_view files) first.owner first.name first.arity (topmost_of first)
    below-first = topmost-below (files_view files) (files-ordered files) no_circle first stands-first method-first

    below-second : IsMethodOf (files_view files) second.owner second.name second.arity (topmost_of second)
    below-second = topmost-below (files_view files) (files-ordered files) no_circle second stands-second method-second

    in-first : Contains (in_order files) (numbered_method (topmost_of first).key)
    in-first = method-in_order files (topmost_of first) below-first.stands
        (topmost-itself (files_view files) (files-ordered files) no_circle first stands-first method-first)

    in-second : Contains (in_order files) (numbered_method (topmost_of second).key)
    in-second = method-in_order files (topmost_of second) below-second.stands
        (topmost-itself (files_view files) (files-ordered files) no_circle second stands-second method-second)

    share : topmost_of first ≡ topmost_of second → ShareMethod files first second
    share same = record {
      named = sym below-first.is_method.named ∙ ap (λ (d : ViewDeclaration ℕ MemberKey). d.name) same ∙ below-second.is_method.named;
      as_many = sym below-first.is_method.takes ∙ ap (λ (d : ViewDeclaration ℕ MemberKey). d.arity) same ∙ below-second.is_method.takes;
      above = topmost_of first;
      first_below = below-first;
      second_below = subst (IsMethodOf (files_view files) second.owner second.name second.arity) (sym same) below-second;
    }

    from_cells : method_held files program first ≡ method_held files program second → ShareMethod files first second
    from_cells same =
        let id : id_at files (numbered_method (topmost_of first).key) ≡ id_at files (numbered_method (topmost_of second).key)
        = one_method (some-same (sym (held-is first stands-first) ∙ same ∙ held-is second stands-second)) in
        let key : (topmost_of first).key ≡ (topmost_of second).key
        = one_key (numbers_apart.apart files (numbered_method (topmost_of first).key)
        (numbered_method (topmost_of second).key) in-first in-second id) in
        share (some-same (sym (stands-found files (topmost_of first) below-first.stands)
        ∙ ap (declaration_at (files_view files)) key ∙ stands-found files (topmost_of second) below-second.stands))

    to_cells : ShareMethod files first second → method_held files program first ≡ method_held files program second
    to_cells sharing =
        let same = one_topmost (files_view files) (files-ordered files) no_circle first second sharing.above method-first method-second
        sharing.named sharing.as_many sharing.first_below sharing.second_below in
        held-is first stands-first
        ∙ ap (λ (d : ViewDeclaration ℕ MemberKey). Some (values.Method (id_at files (numbered_method d.key)))) same
        ∙ sym (held-is second stands-second)

pub methods_shared : MethodsShared
methods_shared = record { by_name = shared }
