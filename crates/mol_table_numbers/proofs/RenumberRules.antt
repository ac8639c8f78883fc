-- The rules of programs hold for a renumbered program.
use Rattle.std.specs.Prelude.{◌≡◌, ℕ, Bool, true, false, cond, ◌&&◌, ◌||◌, List, [], ◌∷◌, ◌++◌, Option, None, Some, is_some, option_map, unwrap_or}
use Rattle.std.proofs.Common.{refl, sym, ap, subst, ◌∙◌, arith, true≢false}
use Rattle.std.specs.FinMap as finite
use Rattle.std.specs.FinMap.{get, get-entries, entries}
use Rattle.std.specs.List.{Contains, list_all, list_any}
use Rattle.std.proofs.lemmas.List.Folds.{list_all-append}
use Rattle.std.specs.Option.{option_map_or}
use Rattle.mol_base.specs.Order.{id_cmp, id_cmp-total, id_cmp-IsAntisymmetric}
use Rattle.mol_base.specs.declared.ident.Id.{Id}
use Rattle.mol_table_rules.specs.Counting.{Counts, Counted, count, living_decls, number_at, passing}
use Rattle.mol_table_rules.specs.Faults.{Missing, method_of, is_present, is_there}
use Rattle.mol_table_rules.specs.Forms.{has_form}
use Rattle.mol_table_rules.specs.Life.{is_decl_of, is_living_decl, lives_method, lists, lives_as, lives, entity_in, is_living_entity}
use Rattle.mol_table_rules.specs.Mentions.{Role, Mention, a_class, a_field, a_method, a_called_method, a_static_method, a_constructor, a_param, a_listed_param, type_mentions, mentions}
use Rattle.mol_table_rules.specs.Program.{Program, same_id, cell, is_yes, living_at, value_at}
use Rattle.mol_values_types.specs.Renamed.{rename_value, rename_known}
use Rattle.mol_table_rules.specs.Renumber.{numbered, renumber}
use Rattle.mol_table_numbers.specs.Looked.{renumbered_counts}
use Rattle.mol_table_rules.specs.Rules.{IsProgram, fills, refers_rightly, is_declared}
use Rattle.mol_values_types.specs.Slots.{same_slot, has_slot}
use Rattle.mol_table_rules.specs.Tidy.{tidied, tidy}
use Rattle.mol_values_types.specs.declared.cell.Cell.{Cell}
use Rattle.mol_values_types.specs.declared.cell.Slot.{Slot}
use Rattle.mol_values_types.specs.declared.cell.Slot.TheVariants as slots
use Rattle.mol_values_types.specs.declared.known.Known.{Known}
use Rattle.mol_values_types.specs.declared.known.Known.TheVariants as knowns
use Rattle.mol_values_types.specs.declared.param.Param.{Param}
use Rattle.mol_values_types.specs.declared.value.Value.{Value}
use Rattle.mol_values_types.specs.declared.value.Value.TheVariants as values
use Rattle.mol_table_rules.proofs.Counts.{none-some, some-same, count-same}
use Rattle.mol_table_rules.proofs.Living.{id_tied, same_id-own}
use Rattle.mol_table_numbers.proofs.RenamedExpressions.{rename_mention}
use Rattle.mol_table_numbers.proofs.RenamedMaps.{IsRenamed, renamed-entries, count-renamed}
use Rattle.mol_table_rules.proofs.TidyRules.{tidied-at}
use Rattle.mol_table_numbers.proofs.RenamedValues.{and-both, and-of, all-from, all-both, came, is-there, value-of, known-of, lives-known, source, known-source, slot-kept, yes-kept, has-slot-kept, came-kind, came-method, came-decl, came-param, came-called, fills-kept, declared-kept}
use Rattle.mol_table_numbers.proofs.RenamedForms.{Live, same-kept, AreLive, formed-kept, all_params, mentions-kept}

module _ (program : Program) (apart : (a b : Id) → lives program a ≡ true → lives program b ≡ true → numbered program a ≡ numbered program b → a ≡ b) where
  abbrev g : Id → Id
  g = numbered program

  abbrev new : Program
  new = renumber program

  -- ---- the rules

  module _ (rules : IsProgram program) (is_tidy : tidy program ≡ program) (present : (at : Cell) (target : Id) → ¬ (Missing program at target)) where
    holder : (id : Id) (slot : Slot) (v : Value) → value_at program id slot ≡ Some v → (known : Known) × (get program.known id ≡ Some known)
    holder id slot v is = at (get program.known id) refl where
      at : (o : Option Known) → get program.known id ≡ o → (known : Known) × (get program.known id ≡ Some known)
      at None e = absurd (true≢false (ap is_some (sym is) ∙ rules.whole id slot ∙ ap (λ o. has_slot o slot) e))
      at (Some known) e = (known, e)

    entity : (id : Id) (slot : Slot) (v : Value) → value_at program id slot ≡ Some v → lives program id ≡ true → is_living_entity program id ≡ true
    entity id slot v is live = ap (λ b. is_some (entity_in (get program.known id)) && b) live ∙ at (get program.known id) refl where
      has : has_slot (get program.known id) slot ≡ true
      has = sym (rules.whole id slot) ∙ ap is_some is

      at : (o : Option Known) → get program.known id ≡ o → (is_some (entity_in (get program.known id)) && true) ≡ true
      at None e = absurd (true≢false (sym has ∙ ap (λ o. has_slot o slot) e))
      at (Some knowns.Class) e = ap (λ o. is_some (entity_in o) && true) e
      at (Some (knowns.Method kind)) e = ap (λ o. is_some (entity_in o) && true) e
      at (Some (knowns.Decl method)) e = ap (λ o. is_some (entity_in o) && true) e
      at (Some knowns.Field) e = ap (λ o. is_some (entity_in o) && true) e
      at (Some (knowns.Param method)) e = absurd (true≢false (sym has ∙ ap (λ o. has_slot o slot) e))

    tidied-is : (at : Cell) (v : Value) → get program.cells at ≡ Some v → tidied program v ≡ v
    tidied-is at v is =
        some-same (tidied program v) v (sym (ap (option_map (tidied program)) is) ∙ sym (tidied-at program at) ∙ ap (λ (p : Program). get p.cells at) is_tidy ∙ is)

    -- what a living value mentions is there
    there : (id : Id) (slot : Slot) (v : Value) → value_at program id slot ≡ Some v → lives program id ≡ true
        → list_all (λ (mention : Mention). is_there program id mention.role mention.id) (mentions v) ≡ true
    there id slot v is live = all-from _ (mentions v) (λ mention contained. at mention contained (is_there program id mention.role mention.id) refl) where
      at : (mention : Mention) → Contains (mentions v) mention → (b : Bool) → is_there program id mention.role mention.id ≡ b → is_there program id mention.role mention.id ≡ true
      at mention contained true e = e
      at mention contained false e = absurd (present (cell id slot) mention.id (record {
        owner_lives = entity id slot v is live;
        value = v;
        holds = is;
        role = mention.role;
        refers = subst (λ w. Contains (mentions w) mention) (sym (tidied-is (cell id slot) v is)) contained;
        gone = e;
      }))

    method-lives : (m id : Id) → fills id a_method (get program.known m) ≡ true → lives_method program m ≡ true → lives program m ≡ true
    method-lives m id fill live = at (get program.known m) refl where
      at : (o : Option Known) → get program.known m ≡ o → lives program m ≡ true
      at None e = absurd (true≢false (sym fill ∙ ap (fills id a_method) e))
      at (Some knowns.Class) e = absurd (true≢false (sym fill ∙ ap (fills id a_method) e))
      at (Some (knowns.Method kind)) e = ap (lives_as program m) e ∙ live
      at (Some (knowns.Decl own)) e = absurd (true≢false (sym fill ∙ ap (fills id a_method) e))
      at (Some knowns.Field) e = absurd (true≢false (sym fill ∙ ap (fills id a_method) e))
      at (Some (knowns.Param own)) e = absurd (true≢false (sym fill ∙ ap (fills id a_method) e))

    any-key : (p : Id × Known → Bool) (es : List (Id × Known)) (id : Id) (known : Known) → finite.find id_cmp id es ≡ Some known → p (id, known) ≡ true → list_any p es ≡ true
    any-key p [] id known is passes = absurd (none-some known is)
    any-key p (e ∷ es) id known is passes = at (same_id id e.0) refl is (λ h. any-key p es id known h passes) where
      or-left : (a b : Bool) → a ≡ true → (a || b) ≡ true
      or-left true b e = refl
      or-left false b e = absurd (true≢false (sym e))

      or-right : (a b : Bool) → b ≡ true → (a || b) ≡ true
      or-right true b e = refl
      or-right false b e = e

      at : (b : Bool) → same_id id e.0 ≡ b → cond b (Some e.1) (finite.find id_cmp id es) ≡ Some known → (finite.find id_cmp id es ≡ Some known → list_any p es ≡ true)
          → (p e || list_any p es) ≡ true
      at true same h rest = or-left (p e) (list_any p es) (sym (ap p (λ i. (id_tied id e.0 same i, some-same known e.1 (sym h) i))) ∙ passes)
      at false same h rest = or-right (p e) (list_any p es) (rest h)

    -- the method of a living declaration lives
    decl-method : (id m : Id) → get program.known id ≡ Some (knowns.Decl m) → living_at program id ≡ true → lives program m ≡ true
    decl-method id m is live = method-lives m id (rules.decls id m is)
        (any-key (is_living_decl program m) (entries program.known) id (knowns.Decl m) (sym (get-entries program.known id) ∙ is) (and-of _ _ (same_id-own m) live))

    -- and that of a living parameter
    param-method : (id m : Id) → get program.known id ≡ Some (knowns.Param m) → lives program id ≡ true → lives program m ≡ true
    param-method id m is live = method-lives m id (rules.params id m is) (and-both _ _ (sym (ap (lives_as program id) is) ∙ live)).0

    -- a parameter in the list of a living method lives
    listed-lives : (id mid m : Id) → lives program id ≡ true → get program.known mid ≡ Some (knowns.Param m) → m ≡ id → is_present program id mid ≡ true → lives program mid ≡ true
    listed-lives id mid m live is own there = at (get program.known id) refl where
      fill : fills mid a_method (get program.known id) ≡ true
      fill = ap (λ x. fills mid a_method (get program.known x)) (sym own) ∙ rules.params mid m is

      at : (o : Option Known) → get program.known id ≡ o → lives program mid ≡ true
      at None e = absurd (true≢false (sym fill ∙ ap (fills mid a_method) e))
      at (Some knowns.Class) e = absurd (true≢false (sym fill ∙ ap (fills mid a_method) e))
      at (Some (knowns.Method kind)) e =
          ap (lives_as program mid) is ∙ ap (λ x. lives_method program x && lists program x mid) own
          ∙ and-of _ _ (sym (ap (lives_as program id) e) ∙ live) (sym (ap (λ o. option_map_or (λ method. lists program method mid) (method_of id o) false) e) ∙ there)
      at (Some (knowns.Decl x)) e = absurd (true≢false (sym fill ∙ ap (fills mid a_method) e))
      at (Some knowns.Field) e = absurd (true≢false (sym fill ∙ ap (fills mid a_method) e))
      at (Some (knowns.Param x)) e = absurd (true≢false (sym fill ∙ ap (fills mid a_method) e))

    listed-known : (id mid : Id) → fills id a_listed_param (get program.known mid) ≡ true → (m : Id) × (get program.known mid ≡ Some (knowns.Param m)) × (m ≡ id)
    listed-known id mid fill = at (get program.known mid) refl where
      at : (o : Option Known) → get program.known mid ≡ o → (m : Id) × (get program.known mid ≡ Some (knowns.Param m)) × (m ≡ id)
      at None e = absurd (true≢false (sym fill ∙ ap (fills id a_listed_param) e))
      at (Some knowns.Class) e = absurd (true≢false (sym fill ∙ ap (fills id a_listed_param) e))
      at (Some (knowns.Method kind)) e = absurd (true≢false (sym fill ∙ ap (fills id a_listed_param) e))
      at (Some (knowns.Decl x)) e = absurd (true≢false (sym fill ∙ ap (fills id a_listed_param) e))
      at (Some knowns.Field) e = absurd (true≢false (sym fill ∙ ap (fills id a_listed_param) e))
      at (Some (knowns.Param m)) e = (m, e, id_tied m id (sym (ap (fills id a_listed_param) e) ∙ fill))

    -- one mention fills its place afterwards
    mention-kept : (id : Id) → lives program id ≡ true → (mention : Mention) → fills id mention.role (get program.known mention.id) ≡ true
        → is_there program id mention.role mention.id ≡ true → fills (g id) mention.role (get new.known (g mention.id)) ≡ true
    mention-kept id live mention fill there = at mention.role refl where
      usual : (role : Role) → mention.role ≡ role → (role ≡ a_listed_param → ⊥) → lives program mention.id ≡ true → fills (g id) mention.role (get new.known (g mention.id)) ≡ true
      usual role e not-listed lives_too =
          ap (λ r. fills (g id) r (get new.known (g mention.id))) e ∙ ap (fills (g id) role) (known-of program apart mention.id lives_too)
          ∙ fills-kept program apart id role (get program.known mention.id) not-listed (ap (λ r. fills id r (get program.known mention.id)) (sym e) ∙ fill)

      there-as : (role : Role) → mention.role ≡ role → is_there program id role mention.id ≡ true
      there-as role e = ap (λ r. is_there program id r mention.id) (sym e) ∙ there

      at : (role : Role) → mention.role ≡ role → fills (g id) mention.role (get new.known (g mention.id)) ≡ true
      at a_class e = usual a_class e (λ h. cc) (there-as a_class e)
      at a_field e = usual a_field e (λ h. cc) (there-as a_field e)
      at a_method e = usual a_method e (λ h. cc) (there-as a_method e)
      at a_called_method e = usual a_called_method e (λ h. cc) (there-as a_called_method e)
      at a_static_method e = usual a_static_method e (λ h. cc) (there-as a_static_method e)
      at a_constructor e = usual a_constructor e (λ h. cc) (there-as a_constructor e)
      at a_param e = ap (λ r. fills (g id) r (get new.known (g mention.id))) e
      at a_listed_param e =
          let known = listed-known id mention.id (ap (λ r. fills id r (get program.known mention.id)) (sym e) ∙ fill) in
          let lives_too = listed-lives id mention.id known.0 live known.1 known.2 (there-as a_listed_param e) in
          ap (λ r. fills (g id) r (get new.known (g mention.id))) e
          ∙ ap (fills (g id) a_listed_param) (known-of program apart mention.id lives_too ∙ ap (option_map (rename_known g)) known.1)
          ∙ ap (λ x. same_id (g x) (g id)) known.2 ∙ same_id-own (g id)

    -- the listed parameters of a living method live
    live-params : (id : Id) (slot : Slot) (v : Value) → value_at program id slot ≡ Some v → lives program id ≡ true → AreLive program apart v
    live-params id slot v is live = at v is where
      each : (params : List Param) → list_all (λ (mention : Mention). fills id mention.role (get program.known mention.id)) (all_params program apart params) ≡ true
          → list_all (λ (mention : Mention). is_there program id mention.role mention.id) (all_params program apart params) ≡ true → Live program apart params
      each [] fill there = refl
      each (param ∷ params) fill there =
          let one = and-both _ _ fill in
          let other = and-both _ _ there in
          let known = listed-known id param.id one.0 in
          and-of _ _ (listed-lives id param.id known.0 live known.1 known.2 other.0)
          (each params (after param params (λ (mention : Mention). fills id mention.role (get program.known mention.id)) one.1)
          (after param params (λ (mention : Mention). is_there program id mention.role mention.id) other.1))
        where
          after : (param : Param) (params : List Param) (p : Mention → Bool) → list_all p (type_mentions param.ty ++ all_params program apart params) ≡ true → list_all p (all_params program apart params) ≡ true
          after param params p h = (and-both (list_all p (type_mentions param.ty)) (list_all p (all_params program apart params)) (sym (list_all-append p (type_mentions param.ty) (all_params program apart params)) ∙ h)).1

      at : (w : Value) → value_at program id slot ≡ Some w → AreLive program apart w
      at (values.Live x) e = refl
      at (values.Package x) e = refl
      at (values.Owner x) e = refl
      at (values.Method x) e = refl
      at (values.Name x) e = refl
      at (values.Super x) e = refl
      at (values.Result x) e = refl
      at (values.Params x) e = each x (rules.references id slot (values.Params x) e) (there id slot (values.Params x) e live)
      at (values.Kind x) e = refl
      at (values.Fixed x) e = refl
      at (values.Words x) e = refl
      at (values.Notes x) e = refl
      at (values.Body x) e = refl
      at (values.Value ty init) e = refl

    some-kept : (o : Option Value) → is_some (option_map (rename_value g) o) ≡ is_some o
    some-kept None = refl
    some-kept (Some v) = refl

    whole : (id : Id) (slot : Slot) → is_some (value_at new id slot) ≡ has_slot (get new.known id) slot
    whole id slot = at (get new.known id) refl where
      by : (was : Id) → lives program was ≡ true → is_some (value_at new (g was) slot) ≡ has_slot (get new.known (g was)) slot
      by was live =
          ap is_some (value-of program apart was slot live) ∙ some-kept (value_at program was slot) ∙ rules.whole was slot
          ∙ sym (has-slot-kept program apart (get program.known was) slot) ∙ ap (λ o. has_slot o slot) (sym (known-of program apart was live))

      none : get new.known id ≡ None → (o : Option Value) → value_at new id slot ≡ o → is_some (value_at new id slot) ≡ false
      none e None is = ap is_some is
      none e (Some v) is =
          let from = source program apart id slot v is in
          let known = lives-known program apart from.was from.live in
          absurd (none-some (rename_known g known.0) (sym e ∙ ap (get new.known) (sym from.named) ∙ known-of program apart from.was from.live ∙ ap (option_map (rename_known g)) known.1))

      at : (o : Option Known) → get new.known id ≡ o → is_some (value_at new id slot) ≡ has_slot (get new.known id) slot
      at None e = none e (value_at new id slot) refl ∙ ap (λ o. has_slot o slot) (sym e)
      at (Some known) e =
          let from = known-source program apart id known e in
          subst (λ q. is_some (value_at new q slot) ≡ has_slot (get new.known q) slot) from.named (by from.was from.live)

    forms : (id : Id) (slot : Slot) (known : Known) (value : Value) → get new.known id ≡ Some known → value_at new id slot ≡ Some value → has_form known slot value ≡ true
    forms id slot known value is at =
        let from = source program apart id slot value at in
        let own = lives-known program apart from.was from.live in
        let same : rename_known g own.0 ≡ known = some-same (rename_known g own.0) known
        (sym (known-of program apart from.was from.live ∙ ap (option_map (rename_known g)) own.1) ∙ ap (get new.known) from.named ∙ is) in
        let old = and-both _ _ (rules.forms from.was slot own.0 from.old own.1 from.holds) in
        sym (λ i. has_form (same i) slot (from.renamed i))
        ∙ and-of _ _ (ap (λ s. same_slot s slot) (slot-kept program apart from.old) ∙ old.0) (formed-kept program apart own.0 from.old (live-params from.was slot from.old from.holds from.live) ∙ old.1)

    references-kept : (id : Id) (slot : Slot) (value : Value) → value_at new id slot ≡ Some value → refers_rightly new.known id value ≡ true
    references-kept id slot value at =
        let from = source program apart id slot value at in
        sym (λ i. refers_rightly new.known (from.named i) (from.renamed i))
        ∙ ap (list_all (λ (mention : Mention). fills (g from.was) mention.role (get new.known mention.id))) (mentions-kept program apart from.old)
        ∙ all-both (λ (mention : Mention). fills from.was mention.role (get program.known mention.id)) (λ (mention : Mention). is_there program from.was mention.role mention.id)
        (rename_mention g) (λ (mention : Mention). fills (g from.was) mention.role (get new.known mention.id)) (mention-kept from.was from.live) (mentions from.old)
        (rules.references from.was slot from.old from.holds) (there from.was slot from.old from.holds from.live)

    living-decl-lives : (id m : Id) → get program.known id ≡ Some (knowns.Decl m) → lives program id ≡ true → living_at program id ≡ true
    living-decl-lives id m is live = sym (ap (lives_as program id) is) ∙ live

    pub renumber-IsProgram : IsProgram new
    renumber-IsProgram = record {
      whole = whole;
      forms = forms;
      references = references-kept;
      kinds = λ id kind at.
          let from = source program apart id slots.Kind (values.Kind kind) at in
          let was = rules.kinds from.was kind (from.holds ∙ ap Some (came-kind program apart from.old kind from.renamed)) in
          ap (get new.known) (sym from.named) ∙ known-of program apart from.was from.live ∙ ap (option_map (rename_known g)) was;
      methods = λ id method at.
          let from = source program apart id slots.Method (values.Method method) at in
          let own = came-method program apart from.old method from.renamed in
          let was = rules.methods from.was own.0 (from.holds ∙ ap Some own.1) in
          ap (get new.known) (sym from.named) ∙ known-of program apart from.was from.live ∙ ap (option_map (rename_known g)) was ∙ ap (λ m. Some (knowns.Decl m)) own.2;
      decls = λ id method is.
          let from = known-source program apart id (knowns.Decl method) is in
          let own = came-decl program apart from.old method from.renamed in
          let was = from.is ∙ ap Some own.1 in
          let live = decl-method from.was own.0 was (living-decl-lives from.was own.0 was from.live) in
          ap (fills id a_method) (ap (get new.known) (sym own.2) ∙ known-of program apart own.0 live)
          ∙ fills-kept program apart id a_method (get program.known own.0) (λ h. cc) (rules.decls from.was own.0 was);
      params = λ id method is.
          let from = known-source program apart id (knowns.Param method) is in
          let own = came-param program apart from.old method from.renamed in
          let was = from.is ∙ ap Some own.1 in
          let live = param-method from.was own.0 was from.live in
          ap (fills id a_method) (ap (get new.known) (sym own.2) ∙ known-of program apart own.0 live)
          ∙ fills-kept program apart id a_method (get program.known own.0) (λ h. cc) (rules.params from.was own.0 was);
      single = λ method one other kind is many first second.
          let m = known-source program apart method (knowns.Method kind) is in
          let a = known-source program apart one (knowns.Decl method) first in
          let b = known-source program apart other (knowns.Decl method) second in
          let a_own = came-decl program apart a.old method a.renamed in
          let b_own = came-decl program apart b.old method b.renamed in
          let a_is = a.is ∙ ap Some a_own.1 in
          let b_is = b.is ∙ ap Some b_own.1 in
          let a_same = apart a_own.0 m.was (decl-method a.was a_own.0 a_is (living-decl-lives a.was a_own.0 a_is a.live)) m.live (a_own.2 ∙ sym m.named) in
          let b_same = apart b_own.0 m.was (decl-method b.was b_own.0 b_is (living-decl-lives b.was b_own.0 b_is b.live)) m.live (b_own.2 ∙ sym m.named) in
          sym a.named
          ∙ ap g (rules.single m.was a.was b.was kind (m.is ∙ ap Some (came-called program apart m.old kind m.renamed)) many (a_is ∙ ap (λ x. Some (knowns.Decl x)) a_same) (b_is ∙ ap (λ x. Some (knowns.Decl x)) b_same))
          ∙ b.named;
      declarations = λ id method kind is of.
          let from = known-source program apart id (knowns.Decl method) is in
          let own = came-decl program apart from.old method from.renamed in
          let was = from.is ∙ ap Some own.1 in
          let live = decl-method from.was own.0 was (living-decl-lives from.was own.0 was from.live) in
          let called = came (rename_known g) (get program.known own.0) (knowns.Method kind) (sym (known-of program apart own.0 live) ∙ ap (get new.known) own.2 ∙ of) in
          sym (ap (λ q. is_declared kind (value_at new q slots.Words) (value_at new q slots.Body)) from.named)
          ∙ ap (λ words. is_declared kind words (value_at new (g from.was) slots.Body)) (value-of program apart from.was slots.Words from.live)
          ∙ ap (λ body. is_declared kind (option_map (rename_value g) (value_at program from.was slots.Words)) body) (value-of program apart from.was slots.Body from.live)
          ∙ declared-kept program apart kind (value_at program from.was slots.Words) (value_at program from.was slots.Body)
          (rules.declarations from.was own.0 kind was (called.1 ∙ ap Some (came-called program apart called.0 kind called.2)));
    }

    -- ---- counts

    living-kept : (id : Id) → lives program id ≡ true → living_at new (g id) ≡ living_at program id
    living-kept id live = ap is_yes (value-of program apart id slots.Live live) ∙ yes-kept program apart (value_at program id slots.Live)

    -- how many declarations of a new method live
    abbrev old_test : Id → Id × Known → Bool
    old_test method e = lives program e.0 && (is_decl_of method (rename_known g e.1) && living_at new (g e.0))

    counted-as : (method : Id) → living_decls new method ≡ count (old_test method) program.known
    counted-as method = count-renamed id_cmp-total id_cmp-IsAntisymmetric (lives program) g (rename_known g) apart (is_living_decl new method) program.known

    or-dead : (id : Id) (known : Known) → get program.known id ≡ Some known → (test : Bool) → (lives program id ≡ true → test ≡ true → ⊥) → (lives program id && test) ≡ false
    or-dead id known is test never = at (lives program id) refl test refl where
      at : (b : Bool) → lives program id ≡ b → (t : Bool) → test ≡ t → (lives program id && test) ≡ false
      at true e true f = absurd (never e f)
      at true e false f = ap (λ b. b && test) e ∙ f
      at false e t f = ap (λ b. b && test) e

    -- of a method that lives as many as of what it was
    test-same : (m : Id) → lives program m ≡ true → (id : Id) (known : Known) → get program.known id ≡ Some known → old_test (g m) (id, known) ≡ is_living_decl program m (id, known)
    test-same m live id knowns.Class is = and-false (lives program id) where
      and-false : (b : Bool) → (b && (false && living_at new (g id))) ≡ (false && living_at program id)
      and-false true = refl
      and-false false = refl
    test-same m live id (knowns.Method kind) is = and-false (lives program id) where
      and-false : (b : Bool) → (b && (false && living_at new (g id))) ≡ (false && living_at program id)
      and-false true = refl
      and-false false = refl
    test-same m live id (knowns.Decl own) is = at (living_at program id) refl where
      at : (b : Bool) → living_at program id ≡ b → (lives program id && (same_id (g m) (g own) && living_at new (g id))) ≡ (same_id m own && living_at program id)
      at true e =
          let here : lives program id ≡ true = ap (lives_as program id) is ∙ e in
          ap (λ b. b && (same_id (g m) (g own) && living_at new (g id))) here
          ∙ (λ i. same-kept program apart m own live (decl-method id own is e) i && living-kept id here i)
      at false e =
          let gone : lives program id ≡ false = ap (lives_as program id) is ∙ e in
          ap (λ b. b && (same_id (g m) (g own) && living_at new (g id))) gone ∙ sym (and-false (same_id m own) (living_at program id) e)
        where
          and-false : (a b : Bool) → b ≡ false → (a && b) ≡ false
          and-false true b e = e
          and-false false b e = refl
    test-same m live id knowns.Field is = and-false (lives program id) where
      and-false : (b : Bool) → (b && (false && living_at new (g id))) ≡ (false && living_at program id)
      and-false true = refl
      and-false false = refl
    test-same m live id (knowns.Param own) is = and-false (lives program id) where
      and-false : (b : Bool) → (b && (false && living_at new (g id))) ≡ (false && living_at program id)
      and-false true = refl
      and-false false = refl

    -- of what is no new method none
    test-none : (method : Id) → ((m : Id) → lives program m ≡ true → g m ≡ method → ⊥) → (id : Id) (known : Known) → get program.known id ≡ Some known → old_test method (id, known) ≡ false
    test-none method none id known is = or-dead id known is (is_decl_of method (rename_known g known) && living_at new (g id)) (never known is) where
      never : (known : Known) → get program.known id ≡ Some known → lives program id ≡ true → (is_decl_of method (rename_known g known) && living_at new (g id)) ≡ true → ⊥
      never knowns.Class is live h = true≢false (sym h)
      never (knowns.Method kind) is live h = true≢false (sym h)
      never (knowns.Decl own) is live h =
          none own (decl-method id own is (living-decl-lives id own is live)) (sym (id_tied method (g own) (and-both _ _ h).0))
      never knowns.Field is live h = true≢false (sym h)
      never (knowns.Param own) is live h = true≢false (sym h)

    passing-none : {X : Type 0} (xs : List X) → passing (λ x. false) xs ≡ 0
    passing-none [] = refl
    passing-none (x ∷ xs) = let rest = passing-none xs in omega (arith, rest)

    pub renumber-Counted : (counts : Counts) → Counted program counts → Counted new (renumbered_counts program counts)
    renumber-Counted counts counted = record {
      numbers = λ method. at method (get fresh method) refl;
      places = λ method kind is.
          let from = known-source program apart method (knowns.Method kind) is in
          let there = is-there (get counts from.was) (counted.places from.was kind (from.is ∙ ap Some (came-called program apart from.old kind from.renamed))) in
          ap (λ q. is_some (get fresh q)) (sym from.named) ∙ ap is_some (renamed.has from.was from.live ∙ ap (option_map (λ n. n)) there.1);
    } where
      fresh : Counts
      fresh = renumbered_counts program counts

      renamed : IsRenamed (lives program) g (λ n. n) counts fresh
      renamed = renamed-entries id_cmp-total id_cmp-IsAntisymmetric (lives program) g (λ n. n) apart counts

      same-option : (o : Option ℕ) → option_map (λ n. n) o ≡ o
      same-option None = refl
      same-option (Some n) = refl

      of-living : (m : Id) → lives program m ≡ true → number_at fresh (g m) ≡ living_decls new (g m)
      of-living m live =
          ap (λ o. unwrap_or o 0) (renamed.has m live ∙ same-option (get counts m)) ∙ counted.numbers m
          ∙ sym (counted-as (g m) ∙ count-same id_cmp-total id_cmp-IsAntisymmetric (old_test (g m)) (is_living_decl program m) program.known (test-same m live))

      of-none : (method : Id) → ((m : Id) → lives program m ≡ true → g m ≡ method → ⊥) → living_decls new method ≡ 0
      of-none method none =
          counted-as method ∙ count-same id_cmp-total id_cmp-IsAntisymmetric (old_test method) (λ e. false) program.known (test-none method none)
          ∙ passing-none (entries program.known)

      known-or : (method : Id) (o : Option Known) → get new.known method ≡ o → get fresh method ≡ None → number_at fresh method ≡ living_decls new method
      known-or method None e none = ap (λ o. unwrap_or o 0) none ∙ sym (of-none method (λ m live is.
          let known = lives-known program apart m live in
          none-some (rename_known g known.0) (sym e ∙ ap (get new.known) (sym is) ∙ known-of program apart m live ∙ ap (option_map (rename_known g)) known.1)))
      known-or method (Some known) e none =
          let from = known-source program apart method known e in
          subst (λ q. number_at fresh q ≡ living_decls new q) from.named (of-living from.was from.live)

      at : (method : Id) (o : Option ℕ) → get fresh method ≡ o → number_at fresh method ≡ living_decls new method
      at method None e = known-or method (get new.known method) refl e
      at method (Some n) e =
          let from = renamed.only method n e in
          subst (λ q. number_at fresh q ≡ living_decls new q) from.2 (of-living from.0 from.1)
