-- Entries of members, one more after those that there are.
use Rattle.std.proofs.Common.{◌≡◌, ℕ, Bool, true, false, cond, not, List, [], ◌∷◌, ◌++◌, map, filter, refl, sym, ◌∙◌, ap, subst, append-nil, length, Result, Ok, Err, OnOk, if◌then◌else◌}
use Rattle.std.proofs.lemmas.List.{map-append, append_assoc}
use Rattle.jav_tree.specs.declared.unit.Ctor.{Ctor}
use Rattle.jav_tree.specs.declared.unit.Field.{Field}
use Rattle.jav_tree.specs.declared.unit.Member.TheVariants as member
use Rattle.jav_tree.specs.declared.unit.Method.{Method}
use Rattle.jav_names.specs.DottedNames.{Name}
use Rattle.jav_names.specs.LookUps.{is_constructor}
use Rattle.jav_names.specs.UnitViews.{MemberKey}
use Rattle.jav_names.specs.Views.{ViewField, static_method, instance_method, ViewDeclaration}
use Rattle.jav_scope.specs.MemberLists.{field_entry, method_entry, constructor_entry, owner_entry, methods_in, constructors_in, place_entry, AreListed, AreAdded, IsAdded}
use Rattle.jav_scope.specs.declared.found.MemberRef.{MemberRef}
use Rattle.jav_scope.specs.declared.member_entries.MemberEntries.{MemberEntries}
use Rattle.jav_names.specs.declared.index.entry.Entry.{Entry}

filter-more : {X : Type 0} (p : X → Bool) (xs : List X) (x : X) → filter p (xs ++ x ∷ []) ≡ filter p xs ++ cond (p x) (x ∷ []) []
filter-more p [] x = refl
filter-more {X} p (y ∷ xs) x = by_test (p y) (filter-more p xs x) where
  by_test : (b : Bool) → filter p (xs ++ x ∷ []) ≡ filter p xs ++ cond (p x) (x ∷ []) []
      → cond b (y ∷ filter p (xs ++ x ∷ [])) (filter p (xs ++ x ∷ [])) ≡ cond b (y ∷ filter p xs) (filter p xs) ++ cond (p x) (x ∷ []) []
  by_test true more = ap (λ ys. y ∷ ys) more
  by_test false more = more

module _ {X : Type 0} (entry : X → Entry) where
  pushed : (entries more : List Entry) (xs : List X) (x : X) → entries ≡ map entry xs → more ≡ entries ++ entry x ∷ [] → more
      ≡ map entry (xs ++ x ∷ [])
  pushed entries more xs x are added = added ∙ ap (λ es. es ++ entry x ∷ []) are ∙ sym (map-append entry xs (x ∷ []))

  pushed-kept : (entries more : List Entry) (kept : X → Bool) (xs : List X) (x : X) → entries ≡ map entry (filter kept xs)
      → kept x ≡ true → more ≡ entries ++ entry x ∷ [] → more ≡ map entry (filter kept (xs ++ x ∷ []))
  pushed-kept entries more kept xs x are keeps added =
      pushed entries more (filter kept xs) x are added
      ∙ ap (map entry) (sym (filter-more kept xs x ∙ ap (λ b. filter kept xs ++ cond b (x ∷ []) []) keeps))

  same-dropped : (entries more : List Entry) (kept : X → Bool) (xs : List X) (x : X) → entries ≡ map entry (filter kept xs)
      → kept x ≡ false → more ≡ entries → more ≡ map entry (filter kept (xs ++ x ∷ []))
  same-dropped entries more kept xs x are drops same =
      same ∙ are ∙ ap (map entry)
      (sym (filter-more kept xs x ∙ ap (λ b. filter kept xs ++ cond b (x ∷ []) []) drops ∙ append-nil (filter kept xs)))

-- ---- one more member

module _ (before after : MemberEntries) where
  pub field-added : (x : ViewField ℕ MemberKey) → after.fields.items ≡ before.fields.items ++ field_entry x ∷ []
      → after.methods.items ≡ before.methods.items → after.constructors.items ≡ before.constructors.items
      → after.constructed.items ≡ before.constructed.items → AreAdded before after (x ∷ []) []
  field-added x fields methods constructors constructed = λ old_fields old_declarations are. record {
    fields = pushed field_entry before.fields.items after.fields.items old_fields x are.fields fields;
    methods = methods ∙ are.methods ∙ (λ i. map method_entry (methods_in (sym (append-nil old_declarations) i)));
    constructors = constructors ∙ are.constructors ∙ (λ i. map constructor_entry (constructors_in (sym (append-nil old_declarations) i)));
    constructed = constructed ∙ are.constructed ∙ (λ i. map owner_entry (constructors_in (sym (append-nil old_declarations) i)));
  }

  pub method-added : (x : ViewDeclaration ℕ MemberKey) → is_constructor x.kind ≡ false → after.fields.items ≡ before.fields.items
      → after.methods.items ≡ before.methods.items ++ method_entry x ∷ [] → after.constructors.items ≡ before.constructors.items
      → after.constructed.items ≡ before.constructed.items → AreAdded before after [] (x ∷ [])
  method-added x kind fields methods constructors constructed = λ old_fields old_declarations are. record {
    fields = fields ∙ are.fields ∙ (λ i. map field_entry (sym (append-nil old_fields) i));
    methods = pushed-kept method_entry before.methods.items after.methods.items (λ declared. not (is_constructor declared.kind))
        old_declarations x
        are.methods (ap not kind) methods;
    constructors = same-dropped constructor_entry before.constructors.items after.constructors.items
        (λ declared. is_constructor declared.kind)
        old_declarations x are.constructors kind constructors;
    constructed = same-dropped owner_entry before.constructed.items after.constructed.items (λ declared. is_constructor declared.kind)
        old_declarations x are.constructed kind constructed;
  }

  pub constructor-added : (x : ViewDeclaration ℕ MemberKey) → is_constructor x.kind ≡ true → after.fields.items ≡ before.fields.items
      → after.methods.items ≡ before.methods.items → after.constructors.items ≡ before.constructors.items ++ constructor_entry x ∷ []
      → after.constructed.items ≡ before.constructed.items ++ owner_entry x ∷ [] → AreAdded before after [] (x ∷ [])
  constructor-added x kind fields methods constructors constructed = λ old_fields old_declarations are. record {
    fields = fields ∙ are.fields ∙ (λ i. map field_entry (sym (append-nil old_fields) i));
    methods = same-dropped method_entry before.methods.items after.methods.items (λ declared. not (is_constructor declared.kind))
        old_declarations x
        are.methods (ap not kind) methods;
    constructors = pushed-kept constructor_entry before.constructors.items after.constructors.items
        (λ declared. is_constructor declared.kind)
        old_declarations x are.constructors kind constructors;
    constructed = pushed-kept owner_entry before.constructed.items after.constructed.items (λ declared. is_constructor declared.kind)
        old_declarations x are.constructed kind constructed;
  }

-- ---- what a call adds that ends well

module _ {E : Type 0} (before after : MemberEntries) (r : Result (Unit {0}) E) (place : MemberRef) where
  abbrev Same : (MemberEntries → List Entry) → Type 0
  Same entries = OnOk r (entries after ≡ entries before)

  abbrev Grows : (MemberEntries → List Entry) → ℕ → Name → Type 0
  Grows entries arity name = OnOk r (entries after ≡ entries before ++ place_entry place arity name ∷ [])

  pub adds-field : (field : Field) → Grows (λ e. e.fields.items) 0 field.name → Same (λ e. e.methods.items)
      → Same (λ e. e.constructors.items) → Same (λ e. e.constructed.items) → OnOk r (IsAdded before after place (member.Field field))
  adds-field field = by_result r where
    by_result : (s : Result (Unit {0}) E) → OnOk s (after.fields.items ≡ before.fields.items ++ place_entry place 0 field.name ∷ [])
        → OnOk s (after.methods.items ≡ before.methods.items) → OnOk s (after.constructors.items ≡ before.constructors.items)
        → OnOk s (after.constructed.items ≡ before.constructed.items) → OnOk s (IsAdded before after place (member.Field field))
    by_result (Ok done) fields methods constructors constructed =
        λ classes source. field-added before after _ fields methods constructors constructed
    by_result (Err e) fields methods constructors constructed = tt

  method_kind : (is_static : Bool) → is_constructor (if is_static then static_method else instance_method) ≡ false
  method_kind true = refl
  method_kind false = refl

  pub adds-method : (method : Method) (arity : ℕ) → arity ≡ length method.params → Same (λ e. e.fields.items)
      → Grows (λ e. e.methods.items) arity method.name → Same (λ e. e.constructors.items) → Same (λ e. e.constructed.items)
      → OnOk r (IsAdded before after place (member.Method method))
  adds-method method arity is = by_result r where
    by_result : (s : Result (Unit {0}) E) → OnOk s (after.fields.items ≡ before.fields.items)
        → OnOk s (after.methods.items ≡ before.methods.items ++ place_entry place arity method.name ∷ [])
        → OnOk s (after.constructors.items ≡ before.constructors.items)
        → OnOk s (after.constructed.items ≡ before.constructed.items) → OnOk s (IsAdded before after place (member.Method method))
    by_result (Ok done) fields methods constructors constructed = λ classes source.
        method-added before after _ (method_kind method.is_static) fields
        (methods ∙ ap (λ n. before.methods.items ++ place_entry place n method.name ∷ []) is) constructors constructed
    by_result (Err e) fields methods constructors constructed = tt

  pub adds-constructor : (declared : Ctor) (arity : ℕ) → arity ≡ length declared.params → Same (λ e. e.fields.items)
      → Same (λ e. e.methods.items) → Grows (λ e. e.constructors.items) arity [] → Grows (λ e. e.constructed.items) 0 []
      → OnOk r (IsAdded before after place (member.Ctor declared))
  adds-constructor declared arity is = by_result r where
    by_result : (s : Result (Unit {0}) E) → OnOk s (after.fields.items ≡ before.fields.items)
        → OnOk s (after.methods.items ≡ before.methods.items)
        → OnOk s (after.constructors.items ≡ before.constructors.items ++ place_entry place arity [] ∷ [])
        → OnOk s (after.constructed.items ≡ before.constructed.items ++ place_entry place 0 [] ∷ [])
        → OnOk s (IsAdded before after place (member.Ctor declared))
    by_result (Ok done) fields methods constructors constructed = λ classes source.
        constructor-added before after _ refl fields methods
        (constructors ∙ ap (λ n. before.constructors.items ++ place_entry place n [] ∷ []) is) constructed
    by_result (Err e) fields methods constructors constructed = tt

-- ---- none, and more

pub none-added : (entries : MemberEntries) → AreAdded entries entries [] []
none-added entries = λ fields declarations are.
    subst (λ (all : List (ViewDeclaration ℕ MemberKey)). AreListed entries (fields ++ []) all) (sym (append-nil declarations))
    (subst (λ (all : List (ViewField ℕ MemberKey)). AreListed entries all declarations) (sym (append-nil fields)) are)

pub added-then : (a b c : MemberEntries) (fields more_fields : List (ViewField ℕ MemberKey))
    (declarations more_declarations : List (ViewDeclaration ℕ MemberKey))
    → AreAdded a b fields declarations → AreAdded b c more_fields more_declarations
    → AreAdded a c (fields ++ more_fields) (declarations ++ more_declarations)
added-then a b c fields more_fields declarations more_declarations first second = λ old_fields old_declarations are.
    subst (λ (all : List (ViewDeclaration ℕ MemberKey)). AreListed c (old_fields ++ (fields ++ more_fields)) all)
    (append_assoc old_declarations declarations more_declarations)
    (subst (λ (all : List (ViewField ℕ MemberKey)). AreListed c all ((old_declarations ++ declarations) ++ more_declarations))
    (append_assoc old_fields fields more_fields)
    (second (old_fields ++ fields) (old_declarations ++ declarations) (first old_fields old_declarations are)))
