-- What a renumbered program holds and knows, by what the program held and knew.
use Rattle.std.specs.Prelude.{◌≡◌, Bool, true, false, ◌&&◌, List, [], ◌∷◌, map, Option, None, Some, is_some, option_map}
use Rattle.std.proofs.Common.{suc, refl, sym, ap, ◌∙◌, arith, true≢false}
use Rattle.std.specs.FinMap.{get}
use Rattle.std.specs.List.{Contains, list_all}
use Rattle.std.specs.Option.{option_map_or}
use Rattle.mol_base.specs.Order.{id_cmp-total, id_cmp-IsAntisymmetric}
use Rattle.mol_base.specs.declared.ident.Id.{Id}
use Rattle.mol_table_rules.specs.Life.{lives_as, lives}
use Rattle.mol_table_rules.specs.Mentions.{Role, a_class, a_field, a_method, a_called_method, a_static_method, a_constructor, a_param, a_listed_param}
use Rattle.mol_table_rules.proofs.CellOrder.{cell_cmp-total, cell_cmp-IsAntisymmetric}
use Rattle.mol_table_rules.specs.Program.{Program, cell, is_yes, value_at}
use Rattle.mol_values_types.specs.Renamed.{rename_type, rename_body, rename_value, rename_known}
use Rattle.mol_table_rules.specs.Renumber.{numbered, renumber}
use Rattle.mol_table_rules.specs.Rules.{fills, is_declared}
use Rattle.mol_values_types.specs.Slots.{slot_of, has_slot}
use Rattle.mol_table_rules.specs.TypeForms.{is_class}
use Rattle.mol_values_types.specs.Words.{is_declaration}
use Rattle.mol_values_types.specs.declared.cell.Cell.{Cell}
use Rattle.mol_values_types.specs.declared.cell.Slot.{Slot}
use Rattle.mol_values_types.specs.declared.iblock.IBody.{IBody}
use Rattle.mol_values_types.specs.declared.itype.IType.{IType}
use Rattle.mol_values_types.specs.declared.kind.MethodKind.{MethodKind}
use Rattle.mol_values_types.specs.declared.kind.MethodKind.TheVariants.{Instance, Static, Constructor}
use Rattle.mol_values_types.specs.declared.known.Known.{Known}
use Rattle.mol_values_types.specs.declared.known.Known.TheVariants as knowns
use Rattle.mol_values_types.specs.declared.value.Value.{Value}
use Rattle.mol_values_types.specs.declared.value.Value.TheVariants as values
use Rattle.mol_values_types.specs.declared.words.Words.{Words}
use Rattle.mol_table_rules.proofs.Counts.{none-some, some-same}
use Rattle.mol_table_numbers.proofs.RenamedExpressions.{class-kept}
use Rattle.mol_table_numbers.proofs.RenamedMaps.{IsRenamed, renamed-entries}

pub and-both : (a b : Bool) → (a && b) ≡ true → (a ≡ true) × (b ≡ true)
and-both true b e = (refl, e)
and-both false b e = absurd (true≢false (sym e))

pub and-of : (a b : Bool) → a ≡ true → b ≡ true → (a && b) ≡ true
and-of a b e f = ap (λ x. x && b) e ∙ f

pub all-from : {X : Type 0} (p : X → Bool) (xs : List X) → ((x : X) → Contains xs x → p x ≡ true) → list_all p xs ≡ true
all-from p [] h = refl
all-from p (x ∷ xs) h = and-of (p x) (list_all p xs) (h x (0, omega arith, refl)) (all-from p xs (λ y c. h y (suc c.0, omega (arith, c.1), c.2)))

pub all-both : {X Y : Type 0} (p q : X → Bool) (f : X → Y) (r : Y → Bool) → ((x : X) → p x ≡ true → q x ≡ true → r (f x) ≡ true) → (xs : List X)
    → list_all p xs ≡ true → list_all q xs ≡ true → list_all r (map f xs) ≡ true
all-both p q f r step [] one two = refl
all-both p q f r step (x ∷ xs) one two =
    let first = and-both (p x) (list_all p xs) one in
    let second = and-both (q x) (list_all q xs) two in
    and-of _ _ (step x first.0 second.0) (all-both p q f r step xs first.1 second.1)

pub came : {X : Type 0} (f : X → X) (o : Option X) (value : X) → option_map f o ≡ Some value → (x : X) × (o ≡ Some x) × (f x ≡ value)
came f None value e = absurd (none-some value e)
came f (Some x) value e = (x, refl, some-same (f x) value e)

pub is-there : {X : Type 0} (o : Option X) → is_some o ≡ true → (x : X) × (o ≡ Some x)
is-there None e = absurd (true≢false (sym e))
is-there (Some x) e = (x, refl)

module _ (program : Program) (apart : (a b : Id) → lives program a ≡ true → lives program b ≡ true → numbered program a ≡ numbered program b → a ≡ b) where
  abbrev g : Id → Id
  g = numbered program

  abbrev new : Program
  new = renumber program

  -- ---- the maps

  abbrev pub cell_lives : Cell → Bool
  cell_lives at = lives program at.id

  abbrev pub new_cell : Cell → Cell
  new_cell at = cell (g at.id) at.slot

  pub cells-apart : (a b : Cell) → cell_lives a ≡ true → cell_lives b ≡ true → new_cell a ≡ new_cell b → a ≡ b
  cells-apart a b a-lives b-lives e =
      let id = apart a.id b.id a-lives b-lives (ap (λ (c : Cell). c.id) e) in
      let slot = ap (λ (c : Cell). c.slot) e in
      λ i. record { id = id i; slot = slot i }

  pub cells-renamed : IsRenamed cell_lives new_cell (rename_value g) program.cells new.cells
  cells-renamed = renamed-entries cell_cmp-total cell_cmp-IsAntisymmetric cell_lives new_cell (rename_value g) cells-apart program.cells

  pub known-renamed : IsRenamed (lives program) g (rename_known g) program.known new.known
  known-renamed = renamed-entries id_cmp-total id_cmp-IsAntisymmetric (lives program) g (rename_known g) apart program.known

  pub value-of : (id : Id) (slot : Slot) → lives program id ≡ true → value_at new (g id) slot ≡ option_map (rename_value g) (value_at program id slot)
  value-of id slot live = cells-renamed.has (cell id slot) live

  pub known-of : (id : Id) → lives program id ≡ true → get new.known (g id) ≡ option_map (rename_known g) (get program.known id)
  known-of id live = known-renamed.has id live

  pub lives-known : (id : Id) → lives program id ≡ true → (known : Known) × (get program.known id ≡ Some known)
  lives-known id live = at (get program.known id) refl where
    at : (o : Option Known) → get program.known id ≡ o → (known : Known) × (get program.known id ≡ Some known)
    at None e = absurd (true≢false (sym live ∙ ap (lives_as program id) e))
    at (Some known) e = (known, e)

  -- what a new value was
  pub record Source (id : Id) (slot : Slot) (value : Value) : Type 0 where
    pub was : Id
    pub live : lives program was ≡ true
    pub named : g was ≡ id
    pub old : Value
    pub holds : value_at program was slot ≡ Some old
    pub renamed : rename_value g old ≡ value

  pub source : (id : Id) (slot : Slot) (value : Value) → value_at new id slot ≡ Some value → Source id slot value
  source id slot value is =
      let from = cells-renamed.only (cell id slot) value is in
      let at = from.0 in
      let slots : at.slot ≡ slot = ap (λ (c : Cell). c.slot) from.2 in
      let old = came (rename_value g) (get program.cells at) value (sym (cells-renamed.has at from.1) ∙ ap (get new.cells) from.2 ∙ is) in
      record {
        was = at.id;
        live = from.1;
        named = ap (λ (c : Cell). c.id) from.2;
        old = old.0;
        holds = ap (λ slot. value_at program at.id slot) (sym slots) ∙ old.1;
        renamed = old.2;
      }

  pub record Known_source (id : Id) (known : Known) : Type 0 where
    pub was : Id
    pub live : lives program was ≡ true
    pub named : g was ≡ id
    pub old : Known
    pub is : get program.known was ≡ Some old
    pub renamed : rename_known g old ≡ known

  pub known-source : (id : Id) (known : Known) → get new.known id ≡ Some known → Known_source id known
  known-source id known is =
      let from = known-renamed.only id known is in
      let old = came (rename_known g) (get program.known from.0) known (sym (known-renamed.has from.0 from.1) ∙ ap (get new.known) from.2 ∙ is) in
      record { was = from.0; live = from.1; named = from.2; old = old.0; is = old.1; renamed = old.2 }

  -- ---- single values

  pub slot-kept : (v : Value) → slot_of (rename_value g v) ≡ slot_of v
  slot-kept (values.Live x) = refl
  slot-kept (values.Package x) = refl
  slot-kept (values.Owner x) = refl
  slot-kept (values.Method x) = refl
  slot-kept (values.Name x) = refl
  slot-kept (values.Super x) = refl
  slot-kept (values.Result x) = refl
  slot-kept (values.Params x) = refl
  slot-kept (values.Kind x) = refl
  slot-kept (values.Fixed x) = refl
  slot-kept (values.Words x) = refl
  slot-kept (values.Notes x) = refl
  slot-kept (values.Body x) = refl
  slot-kept (values.Value ty init) = refl

  pub yes-kept : (o : Option Value) → is_yes (option_map (rename_value g) o) ≡ is_yes o
  yes-kept None = refl
  yes-kept (Some (values.Live x)) = refl
  yes-kept (Some (values.Package x)) = refl
  yes-kept (Some (values.Owner x)) = refl
  yes-kept (Some (values.Method x)) = refl
  yes-kept (Some (values.Name x)) = refl
  yes-kept (Some (values.Super x)) = refl
  yes-kept (Some (values.Result x)) = refl
  yes-kept (Some (values.Params x)) = refl
  yes-kept (Some (values.Kind x)) = refl
  yes-kept (Some (values.Fixed x)) = refl
  yes-kept (Some (values.Words x)) = refl
  yes-kept (Some (values.Notes x)) = refl
  yes-kept (Some (values.Body x)) = refl
  yes-kept (Some (values.Value ty init)) = refl

  pub has-slot-kept : (o : Option Known) (slot : Slot) → has_slot (option_map (rename_known g) o) slot ≡ has_slot o slot
  has-slot-kept None slot = refl
  has-slot-kept (Some knowns.Class) slot = refl
  has-slot-kept (Some (knowns.Method Instance)) slot = refl
  has-slot-kept (Some (knowns.Method Static)) slot = refl
  has-slot-kept (Some (knowns.Method Constructor)) slot = refl
  has-slot-kept (Some (knowns.Decl method)) slot = refl
  has-slot-kept (Some knowns.Field) slot = refl
  has-slot-kept (Some (knowns.Param method)) slot = refl

  pub came-kind : (v : Value) (kind : MethodKind) → rename_value g v ≡ values.Kind kind → v ≡ values.Kind kind
  came-kind (values.Live x) kind h = absurd cc
  came-kind (values.Package x) kind h = absurd cc
  came-kind (values.Owner x) kind h = absurd cc
  came-kind (values.Method x) kind h = absurd cc
  came-kind (values.Name x) kind h = absurd cc
  came-kind (values.Super x) kind h = absurd cc
  came-kind (values.Result x) kind h = absurd cc
  came-kind (values.Params x) kind h = absurd cc
  came-kind (values.Kind x) kind h = h
  came-kind (values.Fixed x) kind h = absurd cc
  came-kind (values.Words x) kind h = absurd cc
  came-kind (values.Notes x) kind h = absurd cc
  came-kind (values.Body x) kind h = absurd cc
  came-kind (values.Value ty init) kind h = absurd cc

  pub some-owner : (x method : Id) → values.Method (g x) ≡ values.Method method → g x ≡ method
  some-owner x method e = cc

  pub came-method : (v : Value) (method : Id) → rename_value g v ≡ values.Method method → (old : Id) × (v ≡ values.Method old) × (g old ≡ method)
  came-method (values.Live x) method h = absurd cc
  came-method (values.Package x) method h = absurd cc
  came-method (values.Owner x) method h = absurd cc
  came-method (values.Method x) method h = (x, refl, some-owner x method h)
  came-method (values.Name x) method h = absurd cc
  came-method (values.Super x) method h = absurd cc
  came-method (values.Result x) method h = absurd cc
  came-method (values.Params x) method h = absurd cc
  came-method (values.Kind x) method h = absurd cc
  came-method (values.Fixed x) method h = absurd cc
  came-method (values.Words x) method h = absurd cc
  came-method (values.Notes x) method h = absurd cc
  came-method (values.Body x) method h = absurd cc
  came-method (values.Value ty init) method h = absurd cc

  pub came-decl : (known : Known) (method : Id) → rename_known g known ≡ knowns.Decl method → (old : Id) × (known ≡ knowns.Decl old) × (g old ≡ method)
  came-decl knowns.Class method e = absurd cc
  came-decl (knowns.Method kind) method e = absurd cc
  came-decl (knowns.Decl old) method e = (old, refl, cc)
  came-decl knowns.Field method e = absurd cc
  came-decl (knowns.Param old) method e = absurd cc

  pub came-param : (known : Known) (method : Id) → rename_known g known ≡ knowns.Param method → (old : Id) × (known ≡ knowns.Param old) × (g old ≡ method)
  came-param knowns.Class method e = absurd cc
  came-param (knowns.Method kind) method e = absurd cc
  came-param (knowns.Decl old) method e = absurd cc
  came-param knowns.Field method e = absurd cc
  came-param (knowns.Param old) method e = (old, refl, cc)

  pub came-called : (known : Known) (kind : MethodKind) → rename_known g known ≡ knowns.Method kind → known ≡ knowns.Method kind
  came-called knowns.Class kind e = absurd cc
  came-called (knowns.Method own) kind e = e
  came-called (knowns.Decl old) kind e = absurd cc
  came-called knowns.Field kind e = absurd cc
  came-called (knowns.Param old) kind e = absurd cc

  pub fills-kept : (owner : Id) (role : Role) (known : Option Known) → (role ≡ a_listed_param → ⊥) → fills owner role known ≡ true → fills (g owner) role (option_map (rename_known g) known) ≡ true
  fills-kept owner a_class None not-listed h = absurd (true≢false (sym h))
  fills-kept owner a_class (Some knowns.Class) not-listed h = refl
  fills-kept owner a_class (Some (knowns.Method Instance)) not-listed h = absurd (true≢false (sym h))
  fills-kept owner a_class (Some (knowns.Method Static)) not-listed h = absurd (true≢false (sym h))
  fills-kept owner a_class (Some (knowns.Method Constructor)) not-listed h = absurd (true≢false (sym h))
  fills-kept owner a_class (Some (knowns.Decl method)) not-listed h = absurd (true≢false (sym h))
  fills-kept owner a_class (Some knowns.Field) not-listed h = absurd (true≢false (sym h))
  fills-kept owner a_class (Some (knowns.Param method)) not-listed h = absurd (true≢false (sym h))
  fills-kept owner a_field None not-listed h = absurd (true≢false (sym h))
  fills-kept owner a_field (Some knowns.Class) not-listed h = absurd (true≢false (sym h))
  fills-kept owner a_field (Some (knowns.Method Instance)) not-listed h = absurd (true≢false (sym h))
  fills-kept owner a_field (Some (knowns.Method Static)) not-listed h = absurd (true≢false (sym h))
  fills-kept owner a_field (Some (knowns.Method Constructor)) not-listed h = absurd (true≢false (sym h))
  fills-kept owner a_field (Some (knowns.Decl method)) not-listed h = absurd (true≢false (sym h))
  fills-kept owner a_field (Some knowns.Field) not-listed h = refl
  fills-kept owner a_field (Some (knowns.Param method)) not-listed h = absurd (true≢false (sym h))
  fills-kept owner a_method None not-listed h = absurd (true≢false (sym h))
  fills-kept owner a_method (Some knowns.Class) not-listed h = absurd (true≢false (sym h))
  fills-kept owner a_method (Some (knowns.Method Instance)) not-listed h = refl
  fills-kept owner a_method (Some (knowns.Method Static)) not-listed h = refl
  fills-kept owner a_method (Some (knowns.Method Constructor)) not-listed h = refl
  fills-kept owner a_method (Some (knowns.Decl method)) not-listed h = absurd (true≢false (sym h))
  fills-kept owner a_method (Some knowns.Field) not-listed h = absurd (true≢false (sym h))
  fills-kept owner a_method (Some (knowns.Param method)) not-listed h = absurd (true≢false (sym h))
  fills-kept owner a_called_method None not-listed h = absurd (true≢false (sym h))
  fills-kept owner a_called_method (Some knowns.Class) not-listed h = absurd (true≢false (sym h))
  fills-kept owner a_called_method (Some (knowns.Method Instance)) not-listed h = refl
  fills-kept owner a_called_method (Some (knowns.Method Static)) not-listed h = refl
  fills-kept owner a_called_method (Some (knowns.Method Constructor)) not-listed h = absurd (true≢false (sym h))
  fills-kept owner a_called_method (Some (knowns.Decl method)) not-listed h = absurd (true≢false (sym h))
  fills-kept owner a_called_method (Some knowns.Field) not-listed h = absurd (true≢false (sym h))
  fills-kept owner a_called_method (Some (knowns.Param method)) not-listed h = absurd (true≢false (sym h))
  fills-kept owner a_static_method None not-listed h = absurd (true≢false (sym h))
  fills-kept owner a_static_method (Some knowns.Class) not-listed h = absurd (true≢false (sym h))
  fills-kept owner a_static_method (Some (knowns.Method Instance)) not-listed h = absurd (true≢false (sym h))
  fills-kept owner a_static_method (Some (knowns.Method Static)) not-listed h = refl
  fills-kept owner a_static_method (Some (knowns.Method Constructor)) not-listed h = absurd (true≢false (sym h))
  fills-kept owner a_static_method (Some (knowns.Decl method)) not-listed h = absurd (true≢false (sym h))
  fills-kept owner a_static_method (Some knowns.Field) not-listed h = absurd (true≢false (sym h))
  fills-kept owner a_static_method (Some (knowns.Param method)) not-listed h = absurd (true≢false (sym h))
  fills-kept owner a_constructor None not-listed h = absurd (true≢false (sym h))
  fills-kept owner a_constructor (Some knowns.Class) not-listed h = absurd (true≢false (sym h))
  fills-kept owner a_constructor (Some (knowns.Method Instance)) not-listed h = absurd (true≢false (sym h))
  fills-kept owner a_constructor (Some (knowns.Method Static)) not-listed h = absurd (true≢false (sym h))
  fills-kept owner a_constructor (Some (knowns.Method Constructor)) not-listed h = refl
  fills-kept owner a_constructor (Some (knowns.Decl method)) not-listed h = absurd (true≢false (sym h))
  fills-kept owner a_constructor (Some knowns.Field) not-listed h = absurd (true≢false (sym h))
  fills-kept owner a_constructor (Some (knowns.Param method)) not-listed h = absurd (true≢false (sym h))
  fills-kept owner a_param known not-listed h = refl
  fills-kept owner a_listed_param known not-listed h = absurd (not-listed refl)

  pub declared-body : (kind : MethodKind) (words : Words) (body : Option IBody) → is_declaration kind words.texts body ≡ true → is_declaration kind words.texts (option_map (rename_body g) body) ≡ true
  declared-body Instance words body h = h
  declared-body Static words None h = h
  declared-body Static words (Some body) h = h
  declared-body Constructor words None h = h
  declared-body Constructor words (Some body) h = h

  pub declared-words : (kind : MethodKind) (words : Words) (o : Option Value) → is_declared kind (Some (values.Words words)) o ≡ true → is_declared kind (Some (values.Words words)) (option_map (rename_value g) o) ≡ true
  declared-words kind words None h = h
  declared-words kind words (Some (values.Live x)) h = h
  declared-words kind words (Some (values.Package x)) h = h
  declared-words kind words (Some (values.Owner x)) h = h
  declared-words kind words (Some (values.Method x)) h = h
  declared-words kind words (Some (values.Name x)) h = h
  declared-words kind words (Some (values.Super x)) h = h
  declared-words kind words (Some (values.Result x)) h = h
  declared-words kind words (Some (values.Params x)) h = h
  declared-words kind words (Some (values.Kind x)) h = h
  declared-words kind words (Some (values.Fixed x)) h = h
  declared-words kind words (Some (values.Words x)) h = h
  declared-words kind words (Some (values.Notes x)) h = h
  declared-words kind words (Some (values.Body x)) h = declared-body kind words x h
  declared-words kind words (Some (values.Value ty init)) h = h

  pub declared-kept : (kind : MethodKind) (words body : Option Value) → is_declared kind words body ≡ true → is_declared kind (option_map (rename_value g) words) (option_map (rename_value g) body) ≡ true
  declared-kept kind None body h = h
  declared-kept kind (Some (values.Live x)) body h = h
  declared-kept kind (Some (values.Package x)) body h = h
  declared-kept kind (Some (values.Owner x)) body h = h
  declared-kept kind (Some (values.Method x)) body h = h
  declared-kept kind (Some (values.Name x)) body h = h
  declared-kept kind (Some (values.Super x)) body h = h
  declared-kept kind (Some (values.Result x)) body h = h
  declared-kept kind (Some (values.Params x)) body h = h
  declared-kept kind (Some (values.Kind x)) body h = h
  declared-kept kind (Some (values.Fixed x)) body h = h
  declared-kept kind (Some (values.Words x)) body h = declared-words kind x body h
  declared-kept kind (Some (values.Notes x)) body h = h
  declared-kept kind (Some (values.Body x)) body h = h
  declared-kept kind (Some (values.Value ty init)) body h = h

  pub parent-kept : (o : Option IType) → option_map_or is_class (option_map (rename_type g) o) true ≡ option_map_or is_class o true
  parent-kept None = refl
  parent-kept (Some ty) = class-kept g ty
