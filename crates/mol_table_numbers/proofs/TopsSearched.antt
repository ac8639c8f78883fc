-- The topmost declarations of methods, looked for among all declarations.
use Rattle.std.specs.Prelude.{◌≡◌, ℕ, suc, zero, ◌+◌, ◌<◌, ◌≤◌, ◌⊎◌, Bool, true, false, cond, ◌&&◌, ◌||◌, not, List, [], ◌∷◌, ◌++◌, length, Option, None, Some, is_some, option_map}
use Rattle.std.proofs.Common.{inl, inr, refl, sym, ap, ◌∙◌, arith, true≢false}
use Rattle.std.proofs.lemmas.List.{append_assoc, append-nil, length-map}
use Rattle.std.proofs.lemmas.List.Folds.{list_any-append}
use Rattle.std.specs.FinMap.{get, entries, contains_key-keys, len, len-entries}
use Rattle.std.specs.FinMap as finite
use Rattle.std.specs.List.{find, list_any, list_all, AllByRecursion, IsDistinct}
use Rattle.std.specs.Option.{option_map_or}
use Rattle.indexmap.specs.IndexMap.{keys}
use Rattle.mol_base.specs.Order.{id_cmp-total, id_cmp-IsAntisymmetric}
use Rattle.mol_base.specs.declared.ident.Id.{Id}
use Rattle.mol_table_rules.specs.Ancestors.{unmet, walk, way}
use Rattle.mol_table_rules.specs.Counting.{is_of, living_of}
use Rattle.mol_table_rules.specs.Faults.{is_above, is_above_living, is_topmost}
use Rattle.mol_table_rules.specs.Heights.{upward}
use Rattle.mol_table_rules.specs.Life.{is_decl_of, is_living_decl}
use Rattle.mol_table.specs.Maps.{program_in, IsOrdered}
use Rattle.mol_values_types.specs.Order.{id_eq}
use Rattle.mol_table_rules.specs.Program.{Program, same_id, living_at, owner_at}
use Rattle.mol_table_rules.specs.Renumber.{topmost}
use Rattle.mol_table_numbers.specs.Tops.{tops_of, top_in}
use Rattle.mol_values_types.specs.declared.known.Known.{Known}
use Rattle.mol_table.specs.declared.maps.Maps.{Maps}
use Rattle.mol_table_numbers.specs.declared.tops.Top.{Top}
use Rattle.mol_table_rules.proofs.Counts.{none-some, some-same, each_found}
use Rattle.mol_table_numbers.proofs.KnownKeys.{known-keys}
use Rattle.mol_table_rules.proofs.Living.{id_tied, same_id-own}
use Rattle.mol_table_rules.proofs.Programs.{keys-known}
use Rattle.mol_table_numbers.proofs.TopsFound.{decl-living, found-passes, known-among, living-decl, topmost-above, topmost-lives}

-- ---- ways

-- The classes that were met on the way of a class, the nearest first, and the next one: what is left of the way follows.
pub record Walks (program : Program) (class : Id) (classes : List Id) (next : Option Id) (steps : ℕ) : Type 0 where
  pub left : ℕ
  pub size : left + steps ≡ suc (len program.known)
  pub met : List Id
  pub same : (id : Id) → list_any (same_id id) met ≡ list_any (same_id id) classes
  pub rest : way program class ≡ classes ++ walk left program met next

or-false : (b : Bool) → (b || false) ≡ b
or-false true = refl
or-false false = refl

or-turn : (a b : Bool) → (a || b) ≡ (b || (a || false))
or-turn true true = refl
or-turn true false = refl
or-turn false true = refl
or-turn false false = refl

pub walks-start : (program : Program) (class : Id) → Walks program class [] (Some class) 0
walks-start program class = record { left = suc (len program.known); size = omega arith; met = []; same = λ id. refl; rest = refl }

-- whether a class was met does not depend on the order of those that were
unmet-same : (met other : List Id) → ((id : Id) → list_any (same_id id) met ≡ list_any (same_id id) other) → (next : Option Id) → unmet met next ≡ unmet other next
unmet-same met other same None = refl
unmet-same met other same (Some class) = ap (λ b. cond b None (Some class)) (same class)

pub walks-more : (program : Program) (class next : Id) (classes : List Id) (steps : ℕ) → steps < suc (len program.known) → Walks program class classes (Some next) steps
    → Walks program class (classes ++ next ∷ []) (unmet (classes ++ next ∷ []) (upward program (Some next))) (steps + 1)
walks-more program class next classes steps within walks = at walks.left walks.size walks.rest where
  same : (id : Id) → list_any (same_id id) (next ∷ walks.met) ≡ list_any (same_id id) (classes ++ next ∷ [])
  same id = ap (λ b. same_id id next || b) (walks.same id) ∙ or-turn (same_id id next) (list_any (same_id id) classes) ∙ sym (list_any-append (same_id id) classes (next ∷ []))

  at : (left : ℕ) → left + steps ≡ suc (len program.known) → way program class ≡ classes ++ walk left program walks.met (Some next)
      → Walks program class (classes ++ next ∷ []) (unmet (classes ++ next ∷ []) (upward program (Some next))) (steps + 1)
  at zero size rest = absurd (omega (arith, size, within))
  at (suc left) size rest = record {
    left = left;
    size = omega (arith, size);
    met = next ∷ walks.met;
    same = same;
    rest = rest
        ∙ ap (λ o. classes ++ next ∷ walk left program (next ∷ walks.met) o) (unmet-same (next ∷ walks.met) (classes ++ next ∷ []) same (upward program (Some next)))
        ∙ sym (append_assoc classes (next ∷ []) (walk left program (next ∷ walks.met) (unmet (classes ++ next ∷ []) (upward program (Some next)))));
  }

pub walks-end : (program : Program) (class : Id) (classes : List Id) (steps : ℕ) → Walks program class classes None steps → classes ≡ way program class
walks-end program class classes steps walks = sym (walks.rest ∙ ap (λ ids. classes ++ ids) (nothing walks.left) ∙ append-nil classes) where
  nothing : (n : ℕ) → walk n program walks.met None ≡ []
  nothing zero = refl
  nothing (suc n) = refl

pub walks-out : (program : Program) (class : Id) (classes : List Id) (next : Option Id) (steps : ℕ) → suc (len program.known) ≤ steps → Walks program class classes next steps → classes ≡ way program class
walks-out program class classes next steps far walks =
    let none : walks.left ≡ 0 = omega (arith, far, walks.size) in
    sym (walks.rest ∙ ap (λ n. classes ++ walk n program walks.met next) none ∙ append-nil classes)

-- ---- the first that passes

pub find-later : (p : Id → Bool) (id : Id) (ids : List Id) → p id ≡ false → find p (id ∷ ids) ≡ find p ids
find-later p id ids fails = ap (λ b. cond b (Some id) (find p ids)) fails

pub find-here : (p : Id → Bool) (id : Id) (ids : List Id) → p id ≡ true → find p (id ∷ ids) ≡ Some id
find-here p id ids passes = ap (λ b. cond b (Some id) (find p ids)) passes

-- ---- what one declaration says of another

pub or-not : (a b : Bool) → (not a || b) ≡ true → a ≡ true → b ≡ true
or-not true b e is = e
or-not false b e is = absurd (true≢false (sym is))

pub or-neither : (a b : Bool) → (not a || b) ≡ false → (a ≡ true) × (b ≡ false)
or-neither true b e = (refl, e)
or-neither false b e = absurd (true≢false e)

module _ (maps : Maps) where
  abbrev program : Program
  program = program_in maps

  pub len-known : IsOrdered maps → IsDistinct id_eq (keys maps.known) → len program.known ≡ length maps.known.entries
  len-known ordered distinct =
      len-entries program.known ∙ sym (length-map (entries program.known) (λ (e : Id × Known). e.0))
      ∙ ap length (known-keys maps ordered distinct) ∙ length-map maps.known.entries (λ (e : Id × Known). e.0)

  -- ---- one method

  of-own : (method : Id) (o : Option Id) → is_of method o ≡ true → o ≡ Some method
  of-own method None e = absurd (true≢false (sym e))
  of-own method (Some own) e = ap Some (sym (id_tied method own e))

  of-other : (method : Id) (o : Option Id) → is_of method o ≡ false → o ≡ Some method → ⊥
  of-other method o e is = true≢false (sym (ap (is_of method) is ∙ same_id-own method) ∙ e)

  pub not-living : (method decl : Id) → is_of method (living_of program decl) ≡ false → is_topmost program method decl ≡ false
  not-living method decl is = at (is_topmost program method decl) refl where
    at : (b : Bool) → is_topmost program method decl ≡ b → is_topmost program method decl ≡ false
    at true e = absurd (of-other method (living_of program decl) is (topmost-lives maps method decl e))
    at false e = e

  pub not-above : (method decl below : Id) → is_of method (living_of program below) ≡ true → is_above program (owner_at program below) (owner_at program decl) ≡ false
      → is_topmost program method decl ≡ false
  not-above method decl below is fails = at (is_topmost program method decl) refl where
    at : (b : Bool) → is_topmost program method decl ≡ b → is_topmost program method decl ≡ false
    at true e = absurd (true≢false (sym (topmost-above maps method decl below e (of-own method (living_of program below) is)) ∙ fails))
    at false e = e

  -- the class of the declaration is above that of each living declaration of the method among these
  abbrev pub IsAbove : Id → Id → List Id → Type 0
  IsAbove method decl ids = (below : Id) → list_any (same_id below) ids ≡ true → is_of method (living_of program below) ≡ true
      → is_above program (owner_at program below) (owner_at program decl) ≡ true

  in-last : (ids : List Id) (last id : Id) → list_any (same_id id) (ids ++ last ∷ []) ≡ true → (id ≡ last) ⊎ (list_any (same_id id) ids ≡ true)
  in-last ids last id h = at (same_id id last) refl (list_any (same_id id) ids) refl (sym (list_any-append (same_id id) ids (last ∷ [])) ∙ h) where
    at : (b : Bool) → same_id id last ≡ b → (c : Bool) → list_any (same_id id) ids ≡ c → (list_any (same_id id) ids || (same_id id last || false)) ≡ true
        → (id ≡ last) ⊎ (list_any (same_id id) ids ≡ true)
    at true e c is h = inl (id_tied id last e)
    at false e true is h = inr is
    at false e false is h = absurd (true≢false (sym h ∙ ap (λ b. b || (same_id id last || false)) is ∙ ap (λ b. b || false) e))

  pub above-none : (method decl : Id) → IsAbove method decl []
  above-none method decl below among is = absurd (true≢false (sym among))

  -- one more, which is no living declaration of the method or of a class below
  pub above-more : (method decl : Id) (ids : List Id) (last : Id) → (is_of method (living_of program last) ≡ true → is_above program (owner_at program last) (owner_at program decl) ≡ true)
      → IsAbove method decl ids → IsAbove method decl (ids ++ last ∷ [])
  above-more method decl ids last here are below among is = at (in-last ids last below among) where
    at : (below ≡ last) ⊎ (list_any (same_id below) ids ≡ true) → is_above program (owner_at program below) (owner_at program decl) ≡ true
    at (inl e) = ap (λ id. is_above program (owner_at program id) (owner_at program decl)) e ∙ here (sym (ap (λ id. is_of method (living_of program id)) e) ∙ is)
    at (inr old) = are below old is

  -- above all
  pub above-all : (method decl : Id) → is_of method (living_of program decl) ≡ true → IsAbove method decl (keys maps.known) → is_topmost program method decl ≡ true
  above-all method decl is are =
      let known = living-decl maps method decl (get program.known decl) (living_at program decl) (of-own method (living_of program decl) is) in
      ap (λ o. option_map_or (λ what. is_decl_of method what && living_at program decl) o false && list_all (is_above_living program method decl) (entries program.known)) known.1
      ∙ ap (λ b. b && list_all (is_above_living program method decl) (entries program.known)) known.2
      ∙ all (entries program.known) (each_found id_cmp-total id_cmp-IsAntisymmetric program.known)
    where
      one : (e : Id × Known) → get program.known e.0 ≡ Some e.1 → is_above_living program method decl e ≡ true
      one e held = at (is_living_decl program method e) refl where
        at : (b : Bool) → is_living_decl program method e ≡ b → is_above_living program method decl e ≡ true
        at false fails = ap (λ b. not b || is_above program (owner_at program e.0) (owner_at program decl)) fails
        at true holds =
            let lives : living_of program e.0 ≡ Some method = decl-living maps method e.0 (get program.known e.0) (living_at program e.0)
            (ap (λ o. option_map_or (λ what. is_decl_of method what && living_at program e.0) o false) held ∙ holds) in
            let among : list_any (same_id e.0) (keys maps.known) ≡ true = keys-known maps.known.entries e.0 ∙ ap is_some held in
            ap (λ b. not (is_living_decl program method e) || b) (are e.0 among (ap (is_of method) lives ∙ same_id-own method)) ∙ or-true (not (is_living_decl program method e))
          where
            or-true : (b : Bool) → (b || true) ≡ true
            or-true true = refl
            or-true false = refl

      all : (es : List (Id × Known)) → AllByRecursion (λ (e : Id × Known). get program.known e.0 ≡ Some e.1) es → list_all (is_above_living program method decl) es ≡ true
      all [] held = refl
      all (e ∷ es) held = ap (λ b. b && list_all (is_above_living program method decl) es) (one e held.0) ∙ all es held.1

  -- ---- all methods

  -- the entries have the topmost declarations of the methods of these declarations, and nothing else
  pub record AreSearched (decls : List Id) (tops : List (Id × Top)) : Type 0 where
    pub right : (method decl : Id) → top_in tops method ≡ Some decl → topmost program method ≡ Some decl
    pub whole : (decl method : Id) → list_any (same_id decl) decls ≡ true → living_of program decl ≡ Some method → top_in tops method ≡ topmost program method

  pub searched-none : (tops : List (Id × Top)) → ((method : Id) → top_in tops method ≡ None) → AreSearched [] tops
  searched-none tops none = record {
    right = λ method decl is. absurd (none-some decl (sym (none method) ∙ is));
    whole = λ decl method among lives. absurd (true≢false (sym among));
  }

  -- one more, which is no living declaration
  pub searched-same : (decls : List Id) (tops : List (Id × Top)) (last : Id) → living_of program last ≡ None → AreSearched decls tops → AreSearched (decls ++ last ∷ []) tops
  searched-same decls tops last none are = record {
    right = are.right;
    whole = λ decl method among lives. at decl method lives (in-last decls last decl among);
  } where
    at : (decl method : Id) → living_of program decl ≡ Some method → (decl ≡ last) ⊎ (list_any (same_id decl) decls ≡ true) → top_in tops method ≡ topmost program method
    at decl method lives (inl e) = absurd (none-some method (sym none ∙ sym (ap (living_of program) e) ∙ lives))
    at decl method lives (inr old) = are.whole decl method old lives

  -- one more, whose method has what was looked for
  pub searched-more : (decls : List Id) (old new : List (Id × Top)) (last own : Id) → living_of program last ≡ Some own
      → ((method : Id) → top_in new method ≡ cond (same_id method own) (topmost program own) (top_in old method)) → AreSearched decls old → AreSearched (decls ++ last ∷ []) new
  searched-more decls old new last own lives put are = record {
    right = λ method decl is. right method decl is (same_id method own) refl;
    whole = λ decl method among living. whole decl method living (in-last decls last decl among) (same_id method own) refl;
  } where
    of-own-method : (method : Id) → same_id method own ≡ true → top_in new method ≡ topmost program method
    of-own-method method e = put method ∙ ap (λ b. cond b (topmost program own) (top_in old method)) e ∙ ap (topmost program) (sym (id_tied method own e))

    of-other-method : (method : Id) → same_id method own ≡ false → top_in new method ≡ top_in old method
    of-other-method method e = put method ∙ ap (λ b. cond b (topmost program own) (top_in old method)) e

    right : (method decl : Id) → top_in new method ≡ Some decl → (b : Bool) → same_id method own ≡ b → topmost program method ≡ Some decl
    right method decl is true e = sym (of-own-method method e) ∙ is
    right method decl is false e = are.right method decl (sym (of-other-method method e) ∙ is)

    whole : (decl method : Id) → living_of program decl ≡ Some method → (decl ≡ last) ⊎ (list_any (same_id decl) decls ≡ true) → (b : Bool) → same_id method own ≡ b
        → top_in new method ≡ topmost program method
    whole decl method living place true e = of-own-method method e
    whole decl method living (inl last-one) false e =
        absurd (true≢false (sym (same_id-own method) ∙ ap (same_id method) (some-same method own (sym living ∙ ap (living_of program) last-one ∙ lives)) ∙ e))
    whole decl method living (inr among) false e = of-other-method method e ∙ are.whole decl method among living

  -- one more, whose method was given its topmost declaration
  pub searched-put : (decls : List Id) (old new : List (Id × Top)) (last own : Id) (top : Top) → living_of program last ≡ Some own → topmost program own ≡ Some top.decl
      → ((method : Id) → get (tops_of new) method ≡ cond (same_id method own) (Some top) (get (tops_of old) method)) → AreSearched decls old → AreSearched (decls ++ last ∷ []) new
  searched-put decls old new last own top lives is put = searched-more decls old new last own lives (λ method. ap (option_map (λ (top : Top). top.decl)) (put method) ∙ at method (same_id method own)) where
    at : (method : Id) (b : Bool) → option_map (λ (top : Top). top.decl) (cond b (Some top) (get (tops_of old) method)) ≡ cond b (topmost program own) (top_in old method)
    at method true = sym is
    at method false = refl

  -- one more, whose method has no topmost declaration
  pub searched-bare : (decls : List Id) (tops : List (Id × Top)) (last own : Id) → living_of program last ≡ Some own → topmost program own ≡ None
      → AreSearched decls tops → AreSearched (decls ++ last ∷ []) tops
  searched-bare decls tops last own lives none are = searched-more decls tops tops last own lives (λ method. put method (same_id method own) refl) are where
    nothing : (o : Option Id) → top_in tops own ≡ o → top_in tops own ≡ None
    nothing None e = e
    nothing (Some decl) e = absurd (none-some decl (sym none ∙ are.right own decl e))

    put : (method : Id) (b : Bool) → same_id method own ≡ b → top_in tops method ≡ cond (same_id method own) (topmost program own) (top_in tops method)
    put method true e =
        ap (top_in tops) (id_tied method own e) ∙ nothing (top_in tops own) refl ∙ sym none
        ∙ sym (ap (λ b. cond b (topmost program own) (top_in tops method)) e)
    put method false e = sym (ap (λ b. cond b (topmost program own) (top_in tops method)) e)

  pub searched-all : (tops : List (Id × Top)) → AreSearched (keys maps.known) tops → (method : Id) → top_in tops method ≡ topmost program method
  searched-all tops are method = at (topmost program method) refl where
    at : (o : Option Id) → topmost program method ≡ o → top_in tops method ≡ topmost program method
    at (Some decl) e =
        let lives = topmost-lives maps method decl (found-passes maps (is_topmost program method) (finite.keys program.known) decl e) in
        are.whole decl method (keys-known maps.known.entries decl ∙ contains_key-keys program.known decl ∙ known-among maps method decl lives) lives
    at None e = by (top_in tops method) refl where
      by : (o : Option Id) → top_in tops method ≡ o → top_in tops method ≡ topmost program method
      by None is = is ∙ sym e
      by (Some decl) is = is ∙ sym (are.right method decl is)
