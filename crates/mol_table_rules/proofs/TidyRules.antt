-- Tidying keeps the rules of programs, and who lives.
use Rattle.std.specs.Prelude.{◌≡◌, Bool, true, false, cond, ◌&&◌, nat_le, List, [], ◌∷◌, map, length, Option, None, Some, is_some, option_map}
use Rattle.std.proofs.Common.{refl, sym, ap, subst, ◌∙◌, true≢false}
use Rattle.std.specs.Cmp.{IsTotalOrder}
use Rattle.std.specs.List.{find, list_all}
use Rattle.std.specs.Option.{option_map_or}
use Rattle.std.specs.Ordering.{eq_by_cmp}
use Rattle.std.specs.declared.cmp.Ordering.{Ordering}
use Rattle.std.specs.FinMap as finite
use Rattle.std.specs.FinMap.{FinMap, entries, get, get-entries, get-from_entries, from_entries, keys}
use Rattle.mol_base.specs.Order.{id_cmp-total, id_cmp-IsAntisymmetric}
use Rattle.mol_base.specs.declared.ident.Id.{Id}
use Rattle.mol_table_rules.specs.Counting.{Counts, Counted}
use Rattle.mol_table_rules.specs.Forms.{is_param, are_params, is_formed, has_form}
use Rattle.mol_table_rules.specs.Life.{is_decl_of, is_living_decl}
use Rattle.mol_table_rules.specs.Mentions.{Mention, a_constructor, type_mentions, maybe_mentions}
use Rattle.mol_table_rules.proofs.CellOrder.{cell_cmp-total}
use Rattle.mol_table_rules.specs.Program.{Program, is_yes, living_at, params_in, params_at, value_at, cell}
use Rattle.mol_table_rules.specs.Rules.{IsProgram, fills, refers_rightly, is_declared}
use Rattle.mol_values_types.specs.Slots.{slot_of, same_slot}
use Rattle.mol_table_rules.specs.StatementForms.{is_body}
use Rattle.mol_table_rules.specs.Tidy.{tidy_body, tidy_expr, is_constructor, is_bare, bare_constructor, tidied, tidy}
use Rattle.mol_values_types.specs.TokenForms.{is_filler}
use Rattle.mol_values_types.specs.declared.cell.Cell.{Cell}
use Rattle.mol_values_types.specs.declared.cell.Slot.{Slot}
use Rattle.mol_values_types.specs.declared.cell.Slot.TheVariants as slots
use Rattle.mol_values_types.specs.declared.iblock.IBody.{IBody}
use Rattle.mol_values_types.specs.declared.kind.MethodKind.{MethodKind}
use Rattle.mol_values_types.specs.declared.kind.MethodKind.TheVariants.{Instance, Static, Constructor}
use Rattle.mol_values_types.specs.declared.known.Known.{Known}
use Rattle.mol_values_types.specs.declared.known.Known.TheVariants as knowns
use Rattle.mol_values_types.specs.declared.param.Param.{Param}
use Rattle.mol_values_types.specs.declared.value.Value.{Value}
use Rattle.mol_values_types.specs.declared.value.Value.TheVariants as values
use Rattle.mol_values_types.specs.Words.{is_declaration}
use Rattle.mol_values_types.specs.declared.words.Words.{Words}
use Rattle.mol_table_rules.proofs.CellOwners.{owner-known}
use Rattle.mol_table_rules.proofs.Counts.{none-some, some-same, count-same}
use Rattle.mol_table_rules.proofs.Kept.{and-imp, all-imp, are_fillers}
use Rattle.mol_table_rules.proofs.KeptBlocks.{maybe-initial, maybe-mentioned, body-kept, body-mentioned}
use Rattle.mol_values_types.proofs.Lookups.{not_absent}

-- ---- maps with each value changed

module _ {K X : Type 0} {R : K → K → Ordering} (total : IsTotalOrder R) (f : X → X) where
  find-mapped : (q : K) (es : List (K × X)) → finite.find R q (map (λ e. (e.0, f e.1)) es) ≡ option_map f (finite.find R q es)
  find-mapped q [] = refl
  find-mapped q (e ∷ es) = at (eq_by_cmp R q e.0) (find-mapped q es) where
    at : (b : Bool) → finite.find R q (map (λ e. (e.0, f e.1)) es) ≡ option_map f (finite.find R q es)
        → cond b (Some (f e.1)) (finite.find R q (map (λ e. (e.0, f e.1)) es)) ≡ option_map f (cond b (Some e.1) (finite.find R q es))
    at true h = refl
    at false h = h

  pub get-mapped : (m : FinMap R X) (q : K) → get (from_entries {R = R} (map (λ e. (e.0, f e.1)) (entries m))) q ≡ option_map f (get m q)
  get-mapped m q = get-from_entries total _ q ∙ find-mapped q (entries m) ∙ ap (option_map f) (sym (get-entries m q))

-- what a changed value was
came : {X : Type 0} (f : X → X) (o : Option X) (value : X) → option_map f o ≡ Some value → (x : X) × (o ≡ Some x) × (f x ≡ value)
came f None value e = absurd (none-some value e)
came f (Some x) value e = (x, refl, some-same (f x) value e)

pub and-both : (a b : Bool) → (a && b) ≡ true → (a ≡ true) × (b ≡ true)
and-both true b e = (refl, e)
and-both false b e = absurd (true≢false (sym e))

pub found-passes : (p : Id → Bool) (ks : List Id) (k : Id) → find p ks ≡ Some k → p k ≡ true
found-passes p [] k e = absurd (none-some k e)
found-passes p (x ∷ ks) k e = at (p x) refl e (found-passes p ks k) where
  at : (b : Bool) → p x ≡ b → cond b (Some x) (find p ks) ≡ Some k → (find p ks ≡ Some k → p k ≡ true) → p k ≡ true
  at true is h later = subst (λ y. p y ≡ true) (some-same x k h) is
  at false is h later = later h

constructor-fills : (owner : Id) (known : Option Known) → is_constructor known ≡ true → fills owner a_constructor known ≡ true
constructor-fills owner None h = absurd (true≢false (sym h))
constructor-fills owner (Some knowns.Class) h = absurd (true≢false (sym h))
constructor-fills owner (Some (knowns.Method Instance)) h = absurd (true≢false (sym h))
constructor-fills owner (Some (knowns.Method Static)) h = absurd (true≢false (sym h))
constructor-fills owner (Some (knowns.Method Constructor)) h = refl
constructor-fills owner (Some (knowns.Decl method)) h = absurd (true≢false (sym h))
constructor-fills owner (Some knowns.Field) h = absurd (true≢false (sym h))
constructor-fills owner (Some (knowns.Param method)) h = absurd (true≢false (sym h))

params-fillers : (params : List Param) → list_all is_param params ≡ true → are_fillers params ≡ true
params-fillers [] h = refl
params-fillers (param ∷ params) h =
    let parts = and-both (is_param param) (list_all is_param params) h in
    ap (λ b. b && are_fillers params) (and-both _ (is_filler param.filler) parts.0).1 ∙ params-fillers params parts.1

module _ (program : Program) where
  abbrev f : Value → Value
  f = tidied program

  pub tidied-at : (at : Cell) → get (tidy program).cells at ≡ option_map f (get program.cells at)
  tidied-at at = get-mapped cell_cmp-total f program.cells at

  yes-kept : (o : Option Value) → is_yes (option_map f o) ≡ is_yes o
  yes-kept None = refl
  yes-kept (Some (values.Live x)) = refl
  yes-kept (Some (values.Package x)) = refl
  yes-kept (Some (values.Owner x)) = refl
  yes-kept (Some (values.Method x)) = refl
  yes-kept (Some (values.Name x)) = refl
  yes-kept (Some (values.Super x)) = refl
  yes-kept (Some (values.Result x)) = refl
  yes-kept (Some (values.Params x)) = refl
  yes-kept (Some (values.Kind x)) = refl
  yes-kept (Some (values.Fixed x)) = refl
  yes-kept (Some (values.Words x)) = refl
  yes-kept (Some (values.Notes x)) = refl
  yes-kept (Some (values.Body x)) = refl
  yes-kept (Some (values.Value ty init)) = refl

  pub living-kept : (id : Id) → living_at (tidy program) id ≡ living_at program id
  living-kept id = ap is_yes (tidied-at (cell id slots.Live)) ∙ yes-kept (value_at program id slots.Live)

  pub tidy-Counted : (counts : Counts) → Counted program counts → Counted (tidy program) counts
  tidy-Counted counts counted = record {
    numbers = λ method. counted.numbers method
        ∙ count-same id_cmp-total id_cmp-IsAntisymmetric (is_living_decl program method) (is_living_decl (tidy program) method) program.known
        (λ key known is. ap (λ b. is_decl_of method known && b) (sym (living-kept key)));
    places = counted.places;
  }

  same-kind : (v : Value) (kind : MethodKind) → f v ≡ values.Kind kind → v ≡ values.Kind kind
  same-kind (values.Live x) kind h = h
  same-kind (values.Package x) kind h = h
  same-kind (values.Owner x) kind h = h
  same-kind (values.Method x) kind h = h
  same-kind (values.Name x) kind h = h
  same-kind (values.Super x) kind h = h
  same-kind (values.Result x) kind h = h
  same-kind (values.Params x) kind h = h
  same-kind (values.Kind x) kind h = h
  same-kind (values.Fixed x) kind h = h
  same-kind (values.Words x) kind h = h
  same-kind (values.Notes x) kind h = h
  same-kind (values.Body x) kind h = absurd cc
  same-kind (values.Value ty init) kind h = absurd cc

  same-method : (v : Value) (method : Id) → f v ≡ values.Method method → v ≡ values.Method method
  same-method (values.Live x) method h = h
  same-method (values.Package x) method h = h
  same-method (values.Owner x) method h = h
  same-method (values.Method x) method h = h
  same-method (values.Name x) method h = h
  same-method (values.Super x) method h = h
  same-method (values.Result x) method h = h
  same-method (values.Params x) method h = h
  same-method (values.Kind x) method h = h
  same-method (values.Fixed x) method h = h
  same-method (values.Words x) method h = h
  same-method (values.Notes x) method h = h
  same-method (values.Body x) method h = absurd cc
  same-method (values.Value ty init) method h = absurd cc

  declared-body : (kind : MethodKind) (words : Words) (body : Option IBody) → is_declaration kind words.texts body ≡ true → is_declaration kind words.texts (option_map (tidy_body (params_at program) (bare_constructor program)) body) ≡ true
  declared-body Instance words body h = h
  declared-body Static words None h = h
  declared-body Static words (Some body) h = h
  declared-body Constructor words None h = h
  declared-body Constructor words (Some body) h = h

  declared-words : (kind : MethodKind) (words : Words) (o : Option Value) → is_declared kind (Some (values.Words words)) o ≡ true → is_declared kind (Some (values.Words words)) (option_map f o) ≡ true
  declared-words kind words None h = h
  declared-words kind words (Some (values.Live x)) h = h
  declared-words kind words (Some (values.Package x)) h = h
  declared-words kind words (Some (values.Owner x)) h = h
  declared-words kind words (Some (values.Method x)) h = h
  declared-words kind words (Some (values.Name x)) h = h
  declared-words kind words (Some (values.Super x)) h = h
  declared-words kind words (Some (values.Result x)) h = h
  declared-words kind words (Some (values.Params x)) h = h
  declared-words kind words (Some (values.Kind x)) h = h
  declared-words kind words (Some (values.Fixed x)) h = h
  declared-words kind words (Some (values.Words x)) h = h
  declared-words kind words (Some (values.Notes x)) h = h
  declared-words kind words (Some (values.Body x)) h = declared-body kind words x h
  declared-words kind words (Some (values.Value ty init)) h = h

  declared-kept : (kind : MethodKind) (words body : Option Value) → is_declared kind words body ≡ true → is_declared kind (option_map f words) (option_map f body) ≡ true
  declared-kept kind None body h = h
  declared-kept kind (Some (values.Live x)) body h = h
  declared-kept kind (Some (values.Package x)) body h = h
  declared-kept kind (Some (values.Owner x)) body h = h
  declared-kept kind (Some (values.Method x)) body h = h
  declared-kept kind (Some (values.Name x)) body h = h
  declared-kept kind (Some (values.Super x)) body h = h
  declared-kept kind (Some (values.Result x)) body h = h
  declared-kept kind (Some (values.Params x)) body h = h
  declared-kept kind (Some (values.Kind x)) body h = h
  declared-kept kind (Some (values.Fixed x)) body h = h
  declared-kept kind (Some (values.Words x)) body h = declared-words kind x body h
  declared-kept kind (Some (values.Notes x)) body h = h
  declared-kept kind (Some (values.Body x)) body h = h
  declared-kept kind (Some (values.Value ty init)) body h = h

  module _ (rules : IsProgram program) where
    pub params-formed : (method : Id) → are_params (params_at program method) ≡ true
    params-formed method = at (value_at program method slots.Params) refl where
      of-known : (params : List Param) → value_at program method slots.Params ≡ Some (values.Params params) → (known : Option Known) → get program.known method ≡ known → are_params params ≡ true
      of-known params is None e = absurd (not_absent (get program.known method) (owner-known program rules (cell method slots.Params) (ap is_some is)) e)
      of-known params is (Some known) e = (and-both (same_slot (slot_of (values.Params params)) slots.Params) (is_formed known (values.Params params)) (rules.forms method slots.Params known (values.Params params) e is)).1

      at : (o : Option Value) → value_at program method slots.Params ≡ o → are_params (params_in o) ≡ true
      at None is = refl
      at (Some (values.Live x)) is = refl
      at (Some (values.Package x)) is = refl
      at (Some (values.Owner x)) is = refl
      at (Some (values.Method x)) is = refl
      at (Some (values.Name x)) is = refl
      at (Some (values.Super x)) is = refl
      at (Some (values.Result x)) is = refl
      at (Some (values.Params x)) is = of-known x is (get program.known method) refl
      at (Some (values.Kind x)) is = refl
      at (Some (values.Fixed x)) is = refl
      at (Some (values.Words x)) is = refl
      at (Some (values.Notes x)) is = refl
      at (Some (values.Body x)) is = refl
      at (Some (values.Value ty init)) is = refl

    few : (method : Id) → nat_le (length (params_at program method)) 255 ≡ true
    few method = (and-both _ _ (and-both _ _ (params-formed method)).0).1

    fillers : (method : Id) → are_fillers (params_at program method) ≡ true
    fillers method = params-fillers (params_at program method) (and-both _ _ (and-both _ _ (params-formed method)).0).0

    abbrev passes : Id → Mention → Bool
    passes owner mention = fills owner mention.role (get program.known mention.id)

    constructors : (owner class constructor : Id) → bare_constructor program class ≡ Some constructor → passes owner (record { role = a_constructor; id = constructor }) ≡ true
    constructors owner class constructor is =
        constructor-fills owner (get program.known constructor)
        (and-both _ _ (and-both _ _ (found-passes (is_bare program class) (keys program.known) constructor is)).0).0

    form-kept : (known : Known) (slot : Slot) (v : Value) → has_form known slot v ≡ true → has_form known slot (f v) ≡ true
    form-kept known slot (values.Live x) h = h
    form-kept known slot (values.Package x) h = h
    form-kept known slot (values.Owner x) h = h
    form-kept known slot (values.Method x) h = h
    form-kept known slot (values.Name x) h = h
    form-kept known slot (values.Super x) h = h
    form-kept known slot (values.Result x) h = h
    form-kept known slot (values.Params x) h = h
    form-kept known slot (values.Kind x) h = h
    form-kept known slot (values.Fixed x) h = h
    form-kept known slot (values.Words x) h = h
    form-kept known slot (values.Notes x) h = h
    form-kept known slot (values.Body body) h = and-imp _ _ _ _ (λ h. h) (formed body) h where
      formed : (body : Option IBody) → option_map_or is_body body true ≡ true → option_map_or is_body (option_map (tidy_body (params_at program) (bare_constructor program)) body) true ≡ true
      formed None h = refl
      formed (Some body) h = body-kept (params_at program) (bare_constructor program) (λ mention. true) few fillers (λ class constructor is. refl) body h
    form-kept known slot (values.Value ty init) h =
        and-imp _ _ _ _ (λ h. h) (and-imp _ _ _ _ (λ h. h) (maybe-initial (params_at program) (bare_constructor program) (λ mention. true) few fillers (λ class constructor is. refl) init)) h

    rightly-kept : (owner : Id) (v : Value) → refers_rightly program.known owner v ≡ true → refers_rightly program.known owner (f v) ≡ true
    rightly-kept owner (values.Live x) h = h
    rightly-kept owner (values.Package x) h = h
    rightly-kept owner (values.Owner x) h = h
    rightly-kept owner (values.Method x) h = h
    rightly-kept owner (values.Name x) h = h
    rightly-kept owner (values.Super x) h = h
    rightly-kept owner (values.Result x) h = h
    rightly-kept owner (values.Params x) h = h
    rightly-kept owner (values.Kind x) h = h
    rightly-kept owner (values.Fixed x) h = h
    rightly-kept owner (values.Words x) h = h
    rightly-kept owner (values.Notes x) h = h
    rightly-kept owner (values.Body body) h = body-mentioned (params_at program) (bare_constructor program) (passes owner) few fillers (constructors owner) body h
    rightly-kept owner (values.Value ty init) h =
        all-imp (passes owner) (type_mentions ty) (maybe_mentions init) (type_mentions ty) (maybe_mentions (option_map (tidy_expr (params_at program) (bare_constructor program)) init)) (λ h. h)
        (maybe-mentioned (params_at program) (bare_constructor program) (passes owner) few fillers (constructors owner) init) h

    was : (id : Id) (slot : Slot) (value : Value) → value_at (tidy program) id slot ≡ Some value → (v : Value) × (value_at program id slot ≡ Some v) × (f v ≡ value)
    was id slot value is = came f (value_at program id slot) value (sym (tidied-at (cell id slot)) ∙ is)

    some-kept : (o : Option Value) → is_some (option_map f o) ≡ is_some o
    some-kept None = refl
    some-kept (Some v) = refl

    pub tidy-IsProgram : IsProgram (tidy program)
    tidy-IsProgram = record {
      whole = λ id slot. ap is_some (tidied-at (cell id slot)) ∙ some-kept (value_at program id slot) ∙ rules.whole id slot;
      forms = λ id slot known value is at.
          let old = was id slot value at in
          subst (λ v. has_form known slot v ≡ true) old.2 (form-kept known slot old.0 (rules.forms id slot known old.0 is old.1));
      references = λ id slot value at.
          let old = was id slot value at in
          subst (λ v. refers_rightly program.known id v ≡ true) old.2 (rightly-kept id old.0 (rules.references id slot old.0 old.1));
      kinds = λ id kind at.
          let old = was id slots.Kind (values.Kind kind) at in
          rules.kinds id kind (old.1 ∙ ap Some (same-kind old.0 kind old.2));
      methods = λ id method at.
          let old = was id slots.Method (values.Method method) at in
          rules.methods id method (old.1 ∙ ap Some (same-method old.0 method old.2));
      decls = rules.decls;
      params = rules.params;
      single = rules.single;
      declarations = λ id method kind is of.
          ap (λ words. is_declared kind words (value_at (tidy program) id slots.Body)) (tidied-at (cell id slots.Words))
          ∙ ap (λ body. is_declared kind (option_map f (value_at program id slots.Words)) body) (tidied-at (cell id slots.Body))
          ∙ declared-kept kind (value_at program id slots.Words) (value_at program id slots.Body) (rules.declarations id method kind is of);
    }
