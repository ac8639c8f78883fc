-- Values of slots, one for each: what they leave in cells, what they make known of their own identity, and which parameters they list.
use Rattle.std.proofs.Common.{◌≡◌, ◌⊎◌, inl, inr, Bool, true, false, cond, ◌||◌, List, [], ◌∷◌, ◌++◌, map, filter_map, Option, Some, Contains, refl, sym, ◌∙◌, ap, true≢false, eq-eqb, eqb-true, append-nil}
use Rattle.std.proofs.lemmas.Bool.{or_right, or_parts}
use Rattle.std.specs.List.{list_any, cons_option}
use Rattle.std.specs.FinMap.{get, insert, get-insert}
use Rattle.jav_names.proofs.Lists.{stands_first, stands_later, stands_where, stands_nowhere}
use Rattle.mol_base.specs.Order.{id_cmp-total}
use Rattle.mol_base.specs.declared.ident.Id.{Id}
use Rattle.mol_table_rules.proofs.CellOrder.{slot_same}
use Rattle.mol_table_rules.proofs.Living.{same_id-own}
use Rattle.mol_table_rules.specs.Program.{Knowns, params_in}
use Rattle.mol_table_rules.specs.Writes.{known_by}
use Rattle.mol_values_types.specs.Order.{slot_number}
use Rattle.mol_values_types.specs.Slots.{slot_of, same_slot}
use Rattle.mol_values_types.specs.declared.cell.Slot.{Slot}
use Rattle.mol_values_types.specs.declared.cell.Slot.TheVariants as slots
use Rattle.mol_values_types.specs.declared.known.Known.{Known}
use Rattle.mol_values_types.specs.declared.param.Param.{Param}
use Rattle.mol_values_types.specs.declared.value.Value.{Value}
use Rattle.mol_values_types.specs.declared.value.Value.TheVariants as values
use Rattle.mol_resolve_laws.proofs.Added.{held, known_after, kept-params, params_of}

-- ---- what the values of slots leave

pub same-own : (slot : Slot) → same_slot slot slot ≡ true
same-own slot = eq-eqb (slot_number slot) (slot_number slot) refl

pub same-is : (first second : Slot) → same_slot first second ≡ true → first ≡ second
same-is first second is = slot_same first second (eqb-true (slot_number first) (slot_number second) is)

pub any-first : (slot : Slot) (ss : List Slot) → Contains ss slot → list_any (same_slot slot) ss ≡ true
any-first slot [] stands = absurd (stands_nowhere slot stands)
any-first slot (s ∷ ss) stands = by (stands_where s slot ss stands) (any-first slot ss) where
  by : (s ≡ slot) ⊎ Contains ss slot → (Contains ss slot → list_any (same_slot slot) ss ≡ true)
      → (same_slot slot s || list_any (same_slot slot) ss) ≡ true
  by (inl same) more = ap (λ b. b || list_any (same_slot slot) ss) (ap (same_slot slot) same ∙ same-own slot)
  by (inr later) more = or_right (same_slot slot s) (list_any (same_slot slot) ss) (more later)

-- each slot has a value of its form
abbrev pub AreSaid : (Slot → Option Value) → List Slot → Type 0
AreSaid said ss = (s : Slot) → Contains ss s → (v : Value) × (said s ≡ Some v) × (slot_of v ≡ s)

pub held-said : (said : Slot → Option Value) (ss : List Slot) → AreSaid said ss → (slot : Slot) (old : Option Value)
    → held (filter_map said ss) slot old ≡ cond (list_any (same_slot slot) ss) (said slot) old
held-said said [] each slot old = refl
held-said said (s ∷ ss) each slot old =
    let here = each s (stands_first s ss) in
    ap (λ (o : Option Value). held (cons_option o (filter_map said ss)) slot old) here.1
    ∙ held-said said ss (λ t stands. each t (stands_later s t ss stands)) slot (cond (same_slot slot (slot_of here.0)) (Some here.0) old)
    ∙ ap (λ (t : Slot). cond (list_any (same_slot slot) ss) (said slot) (cond (same_slot slot t) (Some here.0) old)) here.2
    ∙ by (same_slot slot s) refl (list_any (same_slot slot) ss) where
      by : (b : Bool) → same_slot slot s ≡ b → (any : Bool)
          → cond any (said slot) (cond b (Some (each s (stands_first s ss)).0) old) ≡ cond (b || any) (said slot) old
      by true same any = at any where
        is : Some (each s (stands_first s ss)).0 ≡ said slot
        is = sym (each s (stands_first s ss)).1 ∙ ap said (sym (same-is slot s same))

        at : (any : Bool) → cond any (said slot) (Some (each s (stands_first s ss)).0) ≡ said slot
        at true = refl
        at false = is
      by false apart any = refl

pub said-slots : (said : Slot → Option Value) (ss : List Slot) → AreSaid said ss → map slot_of (filter_map said ss) ≡ ss
said-slots said [] each = refl
said-slots said (s ∷ ss) each =
    let here = each s (stands_first s ss) in
    ap (λ (o : Option Value). map slot_of (cons_option o (filter_map said ss))) here.1
    ∙ (λ i. here.2 i ∷ said-slots said ss (λ t stands. each t (stands_later s t ss stands)) i)

-- ---- what a value makes known of its own identity

-- whether values of this slot say as what their identity is known, and whether they list parameters
abbrev pub is_naming : Slot → Bool
is_naming slots.Kind = true
is_naming slots.Method = true
is_naming slot = false

abbrev pub is_listing : Slot → Bool
is_listing slots.Params = true
is_listing slot = false

-- no value of these slots names its identity
abbrev pub AreQuiet : (Slot → Option Value) → List Slot → Type 0
AreQuiet said ss = (s : Slot) → Contains ss s → is_naming s ≡ false

kept-own : (v : Value) → is_naming (slot_of v) ≡ false → (known : Knowns) (id : Id) (what : Known) → get known id ≡ Some what
    → get (known_by known id v) id ≡ Some what
kept-own (values.Kind kind) quiet known id what is = absurd (true≢false quiet)
kept-own (values.Method method) quiet known id what is = absurd (true≢false quiet)
kept-own (values.Params params) quiet known id what is = kept-params params known id id what is
kept-own (values.Live live) quiet known id what is = is
kept-own (values.Package name) quiet known id what is = is
kept-own (values.Owner owner) quiet known id what is = is
kept-own (values.Name name) quiet known id what is = is
kept-own (values.Super parent) quiet known id what is = is
kept-own (values.Result ty) quiet known id what is = is
kept-own (values.Fixed fixed) quiet known id what is = is
kept-own (values.Words words) quiet known id what is = is
kept-own (values.Notes notes) quiet known id what is = is
kept-own (values.Body body) quiet known id what is = is
kept-own (values.Value ty init) quiet known id what is = is

pub own-kept : (said : Slot → Option Value) (ss : List Slot) → AreSaid said ss → AreQuiet said ss
    → (known : Knowns) (id : Id) (what : Known)
    → get known id ≡ Some what → get (known_after known id (filter_map said ss)) id ≡ Some what
own-kept said [] each quiet known id what is = is
own-kept said (s ∷ ss) each quiet known id what is =
    let here = each s (stands_first s ss) in
    ap (λ (o : Option Value). get (known_after known id (cons_option o (filter_map said ss))) id) here.1
    ∙ own-kept said ss (λ t stands. each t (stands_later s t ss stands)) (λ t stands. quiet t (stands_later s t ss stands))
    (known_by known id here.0) id what
    (kept-own here.0 (ap is_naming here.2 ∙ quiet s (stands_first s ss)) known id what is)

-- The value of a slot names it, and those after it do not.
pub own-named : (said : Slot → Option Value) (front : List Slot) (s : Slot) (back : List Slot) → AreSaid said (front ++ s ∷ back)
    → AreQuiet said back → (v : Value) → said s ≡ Some v → (known : Knowns) (id : Id) (what : Known)
    → ((known : Knowns) → get (known_by known id v) id ≡ Some what)
    → get (known_after known id (filter_map said (front ++ s ∷ back))) id ≡ Some what
own-named said [] s back each quiet v is known id what names =
    ap (λ (o : Option Value). get (known_after known id (cons_option o (filter_map said back))) id) is
    ∙ own-kept said back (λ t stands. each t (stands_later s t back stands)) quiet (known_by known id v) id what (names known)
own-named said (f ∷ front) s back each quiet v is known id what names =
    let here = each f (stands_first f (front ++ s ∷ back)) in
    ap (λ (o : Option Value). get (known_after known id (cons_option o (filter_map said (front ++ s ∷ back)))) id) here.1
    ∙ own-named said front s back (λ t stands. each t (stands_later f t (front ++ s ∷ back) stands)) quiet v is
    (known_by known id here.0) id
    what names

pub put-own : (known : Knowns) (id : Id) (what : Known) → get (insert known id what) id ≡ Some what
put-own known id what = get-insert id_cmp-total known id what id ∙ ap (λ b. cond b (Some what) (get known id)) (same_id-own id)

-- none of these slots names
pub quiet-test : (said : Slot → Option Value) (ss : List Slot) → list_any is_naming ss ≡ false → AreQuiet said ss
quiet-test said [] none s stands = absurd (stands_nowhere s stands)
quiet-test said (t ∷ ss) none s stands = by (is_naming t) refl none (stands_where t s ss stands)
    (λ rest later. quiet-test said ss rest s later) where
      by : (b : Bool) → is_naming t ≡ b → (b || list_any is_naming ss) ≡ false → (t ≡ s) ⊎ Contains ss s
          → (list_any is_naming ss ≡ false → Contains ss s → is_naming s ≡ false) → is_naming s ≡ false
      by true is none place more = absurd (true≢false none)
      by false is none (inl same) more = ap is_naming (sym same) ∙ is
      by false is none (inr later) more = more none later

-- ---- what values list

no-listing : (v : Value) → is_listing (slot_of v) ≡ false → params_in (Some v) ≡ []
no-listing (values.Params params) none = absurd (true≢false none)
no-listing (values.Kind kind) none = refl
no-listing (values.Method method) none = refl
no-listing (values.Live live) none = refl
no-listing (values.Package name) none = refl
no-listing (values.Owner owner) none = refl
no-listing (values.Name name) none = refl
no-listing (values.Super parent) none = refl
no-listing (values.Result ty) none = refl
no-listing (values.Fixed fixed) none = refl
no-listing (values.Words words) none = refl
no-listing (values.Notes notes) none = refl
no-listing (values.Body body) none = refl
no-listing (values.Value ty init) none = refl

pub lists-none : (said : Slot → Option Value) (ss : List Slot) → AreSaid said ss → list_any is_listing ss ≡ false
    → params_of (filter_map said ss) ≡ []
lists-none said [] each none = refl
lists-none said (s ∷ ss) each none =
    let here = each s (stands_first s ss) in
    let parts = or_parts (is_listing s) (list_any is_listing ss) none in
    ap (λ (o : Option Value). params_of (cons_option o (filter_map said ss))) here.1
    ∙ (λ i. no-listing here.0 (ap is_listing here.2 ∙ parts.0) i
    ++ lists-none said ss (λ t stands. each t (stands_later s t ss stands)) parts.1 i)

pub lists-params : (said : Slot → Option Value) (front back : List Slot) → AreSaid said (front ++ slots.Params ∷ back)
    → list_any is_listing front ≡ false → list_any is_listing back ≡ false → (params : List Param)
    → said slots.Params ≡ Some (values.Params params) → params_of (filter_map said (front ++ slots.Params ∷ back)) ≡ params
lists-params said [] back each none last params is =
    ap (λ (o : Option Value). params_of (cons_option o (filter_map said back))) is
    ∙ ap (λ rest. params ++ rest) (lists-none said back (λ t stands. each t (stands_later slots.Params t back stands)) last)
    ∙ append-nil params
lists-params said (f ∷ front) back each none last params is =
    let here = each f (stands_first f (front ++ slots.Params ∷ back)) in
    let parts = or_parts (is_listing f) (list_any is_listing front) none in
    ap (λ (o : Option Value). params_of (cons_option o (filter_map said (front ++ slots.Params ∷ back)))) here.1
    ∙ (λ i. no-listing here.0 (ap is_listing here.2 ∙ parts.0) i
    ++ lists-params said front back (λ t stands. each t (stands_later f t (front ++ slots.Params ∷ back) stands)) parts.1 last params is i)
