-- The cells that a value asks for.
use Rattle.std.proofs.Common.{◌≡◌, ◌⊎◌, inl, inr, List, [], ◌∷◌, ◌++◌, Some, None, Contains, flat_map, filter_map, map, refl, sym, ◌∙◌, ap, subst}
use Rattle.std.specs.Prelude.{◌↔◌}
use Rattle.jav_names.proofs.Lists.{stands-mapped, stands_nowhere}
use Rattle.mol_base.specs.declared.ident.Id.{Id}
use Rattle.mol_faults_mentions.specs.mentions.Kept.{kept_mention}
use Rattle.mol_faults_mentions.specs.declared.mentions.mention.Mention.{Mention as Kept}
use Rattle.mol_resolve_rules.proofs.Stands.{in_front, behind, in_either, from_map, from_some, in_some}
use Rattle.mol_spell_rules.specs.DefaultCreations.{default_creations}
use Rattle.mol_spell_rules.specs.Support.{Calls, IsConstructorOf}
use Rattle.mol_faults_support.proofs.CellsOf.{single-of, of-single}
use Rattle.mol_faults_support.specs.Calls.{called_as, called_by, AreConstructors}
use Rattle.mol_faults_support.specs.Cells.{cells_of}
use Rattle.mol_faults_support.specs.Rests.{Adds, IsOfCell, IsOfValue, called, created}
use Rattle.mol_table_rules.specs.Mentions.{Role, a_class, a_field, a_method, a_called_method, a_static_method, a_constructor, a_param, a_listed_param, mentions}
use Rattle.mol_table_rules.specs.Program.{Program, value_at, cell}
use Rattle.mol_values_types.specs.declared.cell.Cell.{Cell}
use Rattle.mol_values_types.specs.declared.cell.Slot.TheVariants as slots
use Rattle.mol_values_types.specs.declared.value.Value.{Value}

-- ---- what a value calls

called-role : (role : Role) (id method : Id) → called_as role id ≡ Some method
    → (id ≡ method) × ((role ≡ a_called_method) ⊎ ((role ≡ a_static_method) ⊎ (role ≡ a_constructor)))
called-role a_called_method id method is = (let same : id ≡ method = cc in same, inl refl)
called-role a_static_method id method is = (let same : id ≡ method = cc in same, inr (inl refl))
called-role a_constructor id method is = (let same : id ≡ method = cc in same, inr (inr refl))
called-role a_class id method is = absurd cc
called-role a_field id method is = absurd cc
called-role a_method id method is = absurd cc
called-role a_param id method is = absurd cc
called-role a_listed_param id method is = absurd cc

role-called : (role : Role) (id : Id) → (role ≡ a_called_method) ⊎ ((role ≡ a_static_method) ⊎ (role ≡ a_constructor))
    → called_as role id ≡ Some id
role-called role id (inl is) = ap (λ r. called_as r id) is
role-called role id (inr (inl is)) = ap (λ r. called_as r id) is
role-called role id (inr (inr is)) = ap (λ r. called_as r id) is

module _ (value : Value) (kept : List Kept) (are : map kept_mention kept ≡ mentions value) (methods : List Id)
    (is : methods ≡ filter_map (λ mention. called_by (kept_mention mention)) kept) where
  calls-to : (method : Id) → Contains methods method → Calls value method
  calls-to method stands =
      let picked = from_some (λ mention. called_by (kept_mention mention)) kept method (subst (λ ids. Contains ids method) is stands) in
      let role : Role = (kept_mention picked.0).role in
      let known = called-role role picked.0.id method picked.2 in
      let same : kept_mention picked.0 ≡ record { role = role; id = method } = λ i. record { role = role; id = known.0 i } in
      record {
        role = role;
        mentioned = subst (Contains (mentions value)) same
            (subst (λ ms. Contains ms (kept_mention picked.0)) are (stands-mapped kept_mention kept picked.0 picked.1));
        called = known.1;
      }

  calls-from : (method : Id) → Calls value method → Contains methods method
  calls-from method calls =
      let found = from_map kept_mention kept (record { role = calls.role; id = method })
      (subst (λ ms. Contains ms (record { role = calls.role; id = method })) (sym are) calls.mentioned) in
      subst (λ ids. Contains ids method) (sym is)
      (in_some (λ mention. called_by (kept_mention mention)) kept found.0 method found.1
      (ap called_by found.2 ∙ role-called calls.role method calls.called))

  pub calls-are : (method : Id) → Contains methods method ↔ Calls value method
  calls-are method = (calls-to method, calls-from method)

-- ---- cells

module _ (program : Program) (value : Value) (methods constructors : List Id)
    (calls : (method : Id) → Contains methods method ↔ Calls value method) (creates : AreConstructors program value constructors)
    (old new : List Cell)
    (is : new ≡ (old ++ flat_map (cells_of (slots.Params ∷ [])) methods) ++ flat_map (cells_of (slots.Live ∷ [])) constructors) where
  abbrev params : List Cell
  params = flat_map (cells_of (slots.Params ∷ [])) methods

  abbrev lives : List Cell
  lives = flat_map (cells_of (slots.Live ∷ [])) constructors

  to_either : (at : Cell) → Contains (old ++ params) at ⊎ Contains lives at → Contains old at ⊎ IsOfValue program value at
  to_either at (inl there) = by (in_either old params at there) where
    by : Contains old at ⊎ Contains params at → Contains old at ⊎ IsOfValue program value at
    by (inl before) = inl before
    by (inr here) =
        let found = single-of slots.Params methods at here in
        inr (subst (IsOfValue program value) (sym found.2) (called ((calls found.0).0 found.1)))
  to_either at (inr there) =
      let found = single-of slots.Live constructors at there in
      let constructor = (creates found.0).0 found.1 in
      inr (subst (IsOfValue program value) (sym found.2) (created constructor.1 constructor.2))

  from_value : (at : Cell) → IsOfValue program value at → Contains ((old ++ params) ++ lives) at
  from_value at (called {method = method} calls-it) = in_front (old ++ params) lives (cell method slots.Params)
      (behind old params (cell method slots.Params) (of-single slots.Params methods method ((calls method).1 calls-it)))
  from_value at (created {class = class} {declaration = declaration} among is-constructor) =
      behind (old ++ params) lives (cell declaration slots.Live)
      (of-single slots.Live constructors declaration ((creates declaration).1 (class, among, is-constructor)))

  from_either : (at : Cell) → Contains old at ⊎ IsOfValue program value at → Contains ((old ++ params) ++ lives) at
  from_either at (inl before) = in_front (old ++ params) lives at (in_front old params at before)
  from_either at (inr of-value) = from_value at of-value

  pub adds-value : Adds old new (IsOfValue program value)
  adds-value at = (
    λ stands. to_either at (in_either (old ++ params) lives at (subst (λ cs. Contains cs at) is stands)),
    λ either. subst (λ cs. Contains cs at) (sym is) (from_either at either),
  )

-- ---- of a cell

module _ (program : Program) (in_cell : Cell) (old new : List Cell) where
  some-same : (first second : Value) → Some first ≡ Some second → first ≡ second
  some-same first second is = cc

  pub adds-cell : (value : Value) → value_at program in_cell.id in_cell.slot ≡ Some value → Adds old new (IsOfValue program value)
      → Adds old new (IsOfCell program in_cell)
  adds-cell value holds adds at = (λ stands. to ((adds at).0 stands), λ either. (adds at).1 (from either)) where
    to : Contains old at ⊎ IsOfValue program value at → Contains old at ⊎ IsOfCell program in_cell at
    to (inl before) = inl before
    to (inr of-value) = inr (record { value = value; holds = holds; of_value = of-value })

    from : Contains old at ⊎ IsOfCell program in_cell at → Contains old at ⊎ IsOfValue program value at
    from (inl before) = inl before
    from (inr of-cell) = inr (subst (λ v. IsOfValue program v at)
        (some-same of-cell.value value (sym of-cell.holds ∙ holds)) of-cell.of_value)

  pub adds-none : value_at program in_cell.id in_cell.slot ≡ None → new ≡ old → Adds old new (IsOfCell program in_cell)
  adds-none none is at = (λ stands. inl (subst (λ cs. Contains cs at) is stands), from) where
    from : Contains old at ⊎ IsOfCell program in_cell at → Contains new at
    from (inl before) = subst (λ cs. Contains cs at) (sym is) before
    from (inr of-cell) = absurd (let never : None ≡ Some of-cell.value = sym none ∙ of-cell.holds in cc)

-- ---- what creates nothing

pub constructs-none : (program : Program) (value : Value) (found : List Id) → default_creations value ≡ [] → found ≡ []
    → AreConstructors program value found
constructs-none program value found none is id = (
  λ stands. absurd (stands_nowhere id (subst (λ ids. Contains ids id) is stands)),
  λ (constructor : (class : Id) × Contains (default_creations value) class × IsConstructorOf program class id).
      absurd (stands_nowhere constructor.0 (subst (λ ids. Contains ids constructor.0) none constructor.1)),
)
