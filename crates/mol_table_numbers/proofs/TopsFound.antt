-- The topmost declaration of a method is the first of its living declarations by height.
use Rattle.std.specs.Prelude.{◌≡◌, ℕ, ◌<◌, ◌≤◌, ◌⊎◌, Bool, true, false, cond, ◌&&◌, ◌||◌, not, List, [], ◌∷◌, ◌++◌, length, Option, None, Some, is_some, option_map}
use Rattle.std.proofs.Common.{inl, inr, suc, zero, rules, refl, sym, ap, subst, ◌∙◌, arith, true≢false}
use Rattle.std.proofs.lemmas.List.Folds.{list_any-append}
use Rattle.std.specs.Cmp.{IsTotalOrder, eq_by_cmp_equiv}
use Rattle.std.specs.Cmp.Rules.{comparing}
use Rattle.std.specs.FinMap.{get, get-entries, entries, keys, contains_key-keys, len}
use Rattle.std.specs.FinMap as finite
use Rattle.std.specs.List.{find, list_any, list_all}
use Rattle.std.specs.Option.{option_map_or}
use Rattle.std.specs.Ordering.{nat_cmp, ordering_then, ordering_reverse, is_eq, is_lt, MatchOrdering}
use Rattle.std.proofs.lemmas.Cmp.{ranked, nat_cmp_total}
use Rattle.std.specs.declared.cmp.Ordering.{Ordering}
use Rattle.std.specs.declared.cmp.Ordering.TheVariants.{Less, Equal, Greater}
use Rattle.mol_base.specs.Order.{id_cmp, id_cmp-total, id_cmp-IsAntisymmetric}
use Rattle.mol_base.specs.declared.ident.Id.{Id}
use Rattle.mol_table_rules.specs.Ancestors.{living_parent, unmet, walk, is_on_way}
use Rattle.mol_table_rules.specs.Counting.{living_as, living_of}
use Rattle.mol_table_rules.specs.Faults.{is_above, is_above_living, is_topmost, Apart}
use Rattle.mol_table_rules.specs.Heights.{upward, climb, height}
use Rattle.mol_table_rules.specs.Life.{is_decl_of, is_living_decl, lives_method}
use Rattle.mol_table.specs.Maps.{program_in}
use Rattle.mol_table_rules.specs.Program.{Program, same_id, living_at, owner_at, parent_at}
use Rattle.mol_table_rules.specs.Renumber.{topmost}
use Rattle.mol_table_numbers.specs.Tops.{tops_of, top_in, top_cmp, upper, height_in, Ends, top_of, IsDeclared, IsTop, TopIs, AreTops}
use Rattle.mol_values_types.specs.declared.known.Known.{Known}
use Rattle.mol_values_types.specs.declared.known.Known.TheVariants as knowns
use Rattle.mol_table.specs.declared.maps.Maps.{Maps}
use Rattle.mol_table_numbers.specs.declared.tops.Top.{Top}
use Rattle.mol_table.proofs.Bare.{known-ascend, find-first}
use Rattle.mol_table_rules.proofs.Counts.{none-some, some-same, tied}
use Rattle.mol_table_rules.proofs.Living.{id_tied, same_id-own}

pub top_cmp-total : IsTotalOrder top_cmp
top_cmp-total = search (comparing, rules) depth 9

-- ---- one more declaration

module _ (maps : Maps) where
  abbrev program : Program
  program = program_in maps

  or-last : (p : Id → Bool) (decls : List Id) (decl : Id) → list_any p (decls ++ decl ∷ []) ≡ (list_any p decls || p decl)
  or-last p decls decl = list_any-append p decls (decl ∷ []) ∙ ap (λ b. list_any p decls || b) (or-false (p decl)) where
    or-false : (b : Bool) → (b || false) ≡ b
    or-false true = refl
    or-false false = refl

  or-left : (a b : Bool) → a ≡ true → (a || b) ≡ true
  or-left true b e = refl
  or-left false b e = absurd (true≢false (sym e))

  or-right : (a b : Bool) → b ≡ true → (a || b) ≡ true
  or-right true b e = refl
  or-right false b e = e

  or-other : (a b : Bool) → b ≡ false → (a || b) ≡ true → a ≡ true
  or-other true b e h = refl
  or-other false b e h = absurd (true≢false (sym h ∙ e))

  old-or-new : (decls : List Id) (new method decl class : Id) → IsDeclared maps (decls ++ new ∷ []) method decl class → (decl ≡ new) ⊎ IsDeclared maps decls method decl class
  old-or-new decls new method decl class declared = at (same_id decl new) refl where
    at : (b : Bool) → same_id decl new ≡ b → (decl ≡ new) ⊎ IsDeclared maps decls method decl class
    at true e = inl (id_tied decl new e)
    at false e = inr (record {
      among = or-other _ _ e (sym (or-last (same_id decl) decls new) ∙ declared.among);
      declares = declared.declares;
      owned = declared.owned;
    })

  still : (decls : List Id) (new method decl class : Id) → IsDeclared maps decls method decl class → IsDeclared maps (decls ++ new ∷ []) method decl class
  still decls new method decl class declared = record {
    among = or-last (same_id decl) decls new ∙ or-left _ _ declared.among;
    declares = declared.declares;
    owned = declared.owned;
  }

  -- a declaration that is no living one of the method in a class
  top-same : (decls : List Id) (new method : Id) → ((class : Id) → living_of program new ≡ Some method → owner_at program new ≡ Some class → ⊥)
      → (o : Option Top) → TopIs maps decls method o → TopIs maps (decls ++ new ∷ []) method o
  top-same decls new method none None tops = λ decl class declared. at decl class declared (old-or-new decls new method decl class declared) where
    at : (decl class : Id) → IsDeclared maps (decls ++ new ∷ []) method decl class → (decl ≡ new) ⊎ IsDeclared maps decls method decl class → ⊥
    at decl class declared (inl e) = none class (ap (living_of program) (sym e) ∙ declared.declares) (ap (owner_at program) (sym e) ∙ declared.owned)
    at decl class declared (inr old) = tops decl class old
  top-same decls new method none (Some top) tops = record {
    class = tops.class;
    declared = still decls new method top.decl tops.class tops.declared;
    ends = tops.ends;
    high = tops.high;
    least = λ decl class declared. at decl class declared (old-or-new decls new method decl class declared);
  } where
    at : (decl class : Id) → IsDeclared maps (decls ++ new ∷ []) method decl class → (decl ≡ new) ⊎ IsDeclared maps decls method decl class → is_lt (top_cmp (top_of maps decl class) top) ≡ false
    at decl class declared (inl e) = absurd (none class (ap (living_of program) (sym e) ∙ declared.declares) (ap (owner_at program) (sym e) ∙ declared.owned))
    at decl class declared (inr old) = tops.least decl class old

  own-not : (top : Top) → is_lt (top_cmp top top) ≡ false
  own-not top = by (top_cmp top top) ((eq_by_cmp_equiv top_cmp-total).refl top) where
    by : (o : Ordering) → is_eq o ≡ true → is_lt o ≡ false
    by Less e = absurd cc
    by Equal e = refl
    by Greater e = absurd cc

  before-least : (x new met : Top) → is_lt (top_cmp new met) ≡ true → is_lt (top_cmp x met) ≡ false → is_lt (top_cmp x new) ≡ false
  before-least x new met less not-less = by (top_cmp x new) refl where
    less-is : (o : Ordering) → is_lt o ≡ true → o ≡ Less
    less-is Less e = refl
    less-is Equal e = absurd (true≢false (sym e))
    less-is Greater e = absurd (true≢false (sym e))

    by : (o : Ordering) → top_cmp x new ≡ o → is_lt (top_cmp x new) ≡ false
    by Less e = absurd (true≢false (ap is_lt (sym (top_cmp-total.trans x new met e (less-is _ less))) ∙ not-less))
    by Equal e = ap is_lt e
    by Greater e = ap is_lt e

  new-declared : (decls : List Id) (new method class : Id) → living_of program new ≡ Some method → owner_at program new ≡ Some class → IsDeclared maps (decls ++ new ∷ []) method new class
  new-declared decls new method class living owned =
      record { among = or-last (same_id new) decls new ∙ or-right _ _ (same_id-own new); declares = living; owned = owned }

  -- a living declaration of the method in a class
  top-more : (decls : List Id) (new method class : Id) → living_of program new ≡ Some method → owner_at program new ≡ Some class → Ends maps (Some class)
      → (o : Option Top) → TopIs maps decls method o → IsTop maps (decls ++ new ∷ []) method (upper o (top_of maps new class))
  top-more decls new method class living owned ends = at where
    own : (decl other : Id) → decl ≡ new → owner_at program decl ≡ Some other → top_of maps decl other ≡ top_of maps new class
    own decl other e has =
        let same : other ≡ class = some-same other class (sym has ∙ ap (owner_at program) e ∙ owned) in
        λ i. top_of maps (e i) (same i)

    at : (o : Option Top) → TopIs maps decls method o → IsTop maps (decls ++ new ∷ []) method (upper o (top_of maps new class))
    at None tops = record {
      class = class;
      declared = new-declared decls new method class living owned;
      ends = ends;
      high = refl;
      least = λ decl other declared. least decl other declared (old-or-new decls new method decl other declared);
    } where
      least : (decl other : Id) → IsDeclared maps (decls ++ new ∷ []) method decl other → (decl ≡ new) ⊎ IsDeclared maps decls method decl other
          → is_lt (top_cmp (top_of maps decl other) (top_of maps new class)) ≡ false
      least decl other declared (inl e) = ap (λ t. is_lt (top_cmp t (top_of maps new class))) (own decl other e declared.owned) ∙ own-not (top_of maps new class)
      least decl other declared (inr old) = absurd (tops decl other old)
    at (Some met) tops = choose (is_lt (top_cmp (top_of maps new class) met)) refl where
      choose : (b : Bool) → is_lt (top_cmp (top_of maps new class) met) ≡ b → IsTop maps (decls ++ new ∷ []) method (cond b (top_of maps new class) met)
      choose true less = record {
        class = class;
        declared = new-declared decls new method class living owned;
        ends = ends;
        high = refl;
        least = λ decl other declared. least decl other declared (old-or-new decls new method decl other declared);
      } where
        least : (decl other : Id) → IsDeclared maps (decls ++ new ∷ []) method decl other → (decl ≡ new) ⊎ IsDeclared maps decls method decl other
            → is_lt (top_cmp (top_of maps decl other) (top_of maps new class)) ≡ false
        least decl other declared (inl e) = ap (λ t. is_lt (top_cmp t (top_of maps new class))) (own decl other e declared.owned) ∙ own-not (top_of maps new class)
        least decl other declared (inr old) = before-least (top_of maps decl other) (top_of maps new class) met less (tops.least decl other old)
      choose false not-less = record {
        class = tops.class;
        declared = still decls new method met.decl tops.class tops.declared;
        ends = tops.ends;
        high = tops.high;
        least = λ decl other declared. least decl other declared (old-or-new decls new method decl other declared);
      } where
        least : (decl other : Id) → IsDeclared maps (decls ++ new ∷ []) method decl other → (decl ≡ new) ⊎ IsDeclared maps decls method decl other
            → is_lt (top_cmp (top_of maps decl other) met) ≡ false
        least decl other declared (inl e) = ap (λ t. is_lt (top_cmp t met)) (own decl other e declared.owned) ∙ not-less
        least decl other declared (inr old) = tops.least decl other old

  -- the entries once a method has the first of what it had and a declaration
  pub tops-more : (decls : List Id) (old new : List (Id × Top)) (decl method class : Id) → living_of program decl ≡ Some method → owner_at program decl ≡ Some class → Ends maps (Some class)
      → ((at : Id) → get (tops_of new) at ≡ cond (same_id at method) (Some (upper (get (tops_of old) method) (top_of maps decl class))) (get (tops_of old) at))
      → AreTops maps decls old → AreTops maps (decls ++ decl ∷ []) new
  tops-more decls old new decl method class living owned ends put tops at = by (same_id at method) refl where
    by : (b : Bool) → same_id at method ≡ b → TopIs maps (decls ++ decl ∷ []) at (get (tops_of new) at)
    by true e =
        let same = id_tied at method e in
        subst (TopIs maps (decls ++ decl ∷ []) at) (sym (put at ∙ ap (λ b. cond b (Some (upper (get (tops_of old) method) (top_of maps decl class))) (get (tops_of old) at)) e))
        (subst (λ m. IsTop maps (decls ++ decl ∷ []) m (upper (get (tops_of old) method) (top_of maps decl class))) (sym same) (top-more decls decl method class living owned ends (get (tops_of old) method) (tops method)))
    by false e =
        subst (TopIs maps (decls ++ decl ∷ []) at) (sym (put at ∙ ap (λ b. cond b (Some (upper (get (tops_of old) method) (top_of maps decl class))) (get (tops_of old) at)) e))
        (top-same decls decl at (λ other lives has. true≢false (sym (same_id-own at) ∙ ap (same_id at) (some-same at method (sym lives ∙ living)) ∙ e)) (get (tops_of old) at) (tops at))

  -- the same entries, where a declaration is no living one in a class
  pub tops-same : (decls : List Id) (tops : List (Id × Top)) (decl : Id) → ((method class : Id) → living_of program decl ≡ Some method → owner_at program decl ≡ Some class → ⊥)
      → AreTops maps decls tops → AreTops maps (decls ++ decl ∷ []) tops
  tops-same decls tops decl none are method = top-same decls decl method (none method) (get (tops_of tops) method) (are method)

  -- no declaration was met
  pub tops-none : (tops : List (Id × Top)) → ((at : Id) → get (tops_of tops) at ≡ None) → AreTops maps [] tops
  tops-none tops none method = subst (TopIs maps [] method) (sym (none method)) (λ decl class declared. true≢false (sym declared.among))

  -- ---- heights

  climb-more : (n : ℕ) (at : Option Id) → climb program n at ≡ None → climb program (suc n) at ≡ None
  climb-more zero None e = refl
  climb-more zero (Some class) e = absurd (none-some class (sym e))
  climb-more (suc n) at e = climb-more n (upward program at) e

  pub climb-on : (n m : ℕ) (at : Option Id) → n ≤ m → climb program n at ≡ None → climb program m at ≡ None
  climb-on zero zero at le e = e
  climb-on zero (suc m) at le e = climb-more m at (climb-on zero m at (omega arith) e)
  climb-on (suc n) zero at le e = absurd (omega (arith, le))
  climb-on (suc n) (suc m) at le e = climb-on n m (upward program at) (omega (arith, le)) e

  pub ends-up : (at : Option Id) → Ends maps at → Ends maps (upward program at)
  ends-up at e = climb-more (suc (length maps.known.entries)) at e

  stable : (n : ℕ) (at : Option Id) → climb program n at ≡ None → height program (suc n) at ≡ height program n at
  stable zero None e = refl
  stable zero (Some class) e = absurd (none-some class (sym e))
  stable (suc n) None e = refl
  stable (suc n) (Some class) e = ap suc (stable n (upward program (Some class)) e)

  -- a class has one more above it than its superclass
  pub height-up : (class parent : Id) → Ends maps (Some class) → upward program (Some class) ≡ Some parent → height_in maps class ≡ suc (height_in maps parent)
  height-up class parent ends is =
      let n = length maps.known.entries in
      ap suc (ap (height program n) is ∙ sym (stable n (Some parent) (ap (climb program n) (sym is) ∙ ends)))

  abbrev Higher : Id → Id → Type 0
  Higher x class = (x ≡ class) ⊎ (height_in maps x < height_in maps class)

  on-walk : (n : ℕ) (met : List Id) (class x : Id) → Ends maps (Some class) → list_any (same_id x) (walk n program met (Some class)) ≡ true → Higher x class
  on-walk zero met class x ends h = absurd (true≢false (sym h))
  on-walk (suc n) met class x ends h =
      at (same_id x class) refl h (λ parent is. on-walk n (class ∷ met) parent x (subst (Ends maps) is (ends-up (Some class) ends))) where
        nothing : (n : ℕ) → list_any (same_id x) (walk n program (class ∷ met) None) ≡ true → Higher x class
        nothing zero h = absurd (true≢false (sym h))
        nothing (suc n) h = absurd (true≢false (sym h))

        up : (parent : Id) → upward program (Some class) ≡ Some parent → Higher x parent → Higher x class
        up parent is (inl e) = inr (let h = height-up class parent ends is in subst (λ y. height_in maps y < height_in maps class) (sym e) (omega (arith, h)))
        up parent is (inr less) = inr (let h = height-up class parent ends is in omega (arith, h, less))

        next : (parent : Id) → upward program (Some class) ≡ Some parent → (b : Bool) → list_any (same_id x) (walk n program (class ∷ met) (cond b None (Some parent))) ≡ true
            → (list_any (same_id x) (walk n program (class ∷ met) (Some parent)) ≡ true → Higher x parent) → Higher x class
        next parent is true h above = nothing n h
        next parent is false h above = up parent is (above h)

        rest : (o : Option Id) → upward program (Some class) ≡ o → list_any (same_id x) (walk n program (class ∷ met) (unmet (class ∷ met) o)) ≡ true
            → ((parent : Id) → upward program (Some class) ≡ Some parent → list_any (same_id x) (walk n program (class ∷ met) (Some parent)) ≡ true → Higher x parent) → Higher x class
        rest None is h above = nothing n h
        rest (Some parent) is h above = next parent is (list_any (same_id parent) (class ∷ met)) h (above parent is)

        at : (b : Bool) → same_id x class ≡ b → (b || list_any (same_id x) (walk n program (class ∷ met) (unmet (class ∷ met) (living_parent program (parent_at program class))))) ≡ true
            → ((parent : Id) → upward program (Some class) ≡ Some parent → list_any (same_id x) (walk n program (class ∷ met) (Some parent)) ≡ true → Higher x parent) → Higher x class
        at true e h above = inl (id_tied x class e)
        at false e h above = rest (upward program (Some class)) refl h above

  -- ---- topmost declarations

  and-both : (a b : Bool) → (a && b) ≡ true → (a ≡ true) × (b ≡ true)
  and-both true b e = (refl, e)
  and-both false b e = absurd (true≢false (sym e))

  -- what all entries pass, what a map has passes
  at-key : (p : Id × Known → Bool) (es : List (Id × Known)) → list_all p es ≡ true → (id : Id) (known : Known) → finite.find id_cmp id es ≡ Some known → p (id, known) ≡ true
  at-key p [] all id known is = absurd (none-some known is)
  at-key p (e ∷ es) all id known is = at (same_id id e.0) refl is (at-key p es parts.1 id known) where
    parts : (p e ≡ true) × (list_all p es ≡ true)
    parts = and-both (p e) (list_all p es) all

    at : (b : Bool) → same_id id e.0 ≡ b → cond b (Some e.1) (finite.find id_cmp id es) ≡ Some known
        → (finite.find id_cmp id es ≡ Some known → p (id, known) ≡ true) → p (id, known) ≡ true
    at true same h rest = ap p (λ i. (id_tied id e.0 same i, some-same known e.1 (sym h) i)) ∙ parts.0
    at false same h rest = rest h

  pub living-decl : (method id : Id) (known : Option Known) (living : Bool) → living_as known living ≡ Some method
      → (what : Known) × (known ≡ Some what) × ((is_decl_of method what && living) ≡ true)
  living-decl method id None living e = absurd (none-some method e)
  living-decl method id (Some knowns.Class) living e = absurd (none-some method e)
  living-decl method id (Some (knowns.Method kind)) living e = absurd (none-some method e)
  living-decl method id (Some (knowns.Decl own)) true e = (knowns.Decl own, refl, ap (λ b. b && true) (ap (same_id method) (some-same own method e) ∙ same_id-own method))
  living-decl method id (Some (knowns.Decl own)) false e = absurd (none-some method e)
  living-decl method id (Some knowns.Field) living e = absurd (none-some method e)
  living-decl method id (Some (knowns.Param own)) living e = absurd (none-some method e)

  pub decl-living : (method id : Id) (known : Option Known) (living : Bool) → option_map_or (λ what. is_decl_of method what && living) known false ≡ true → living_as known living ≡ Some method
  decl-living method id None living e = absurd (true≢false (sym e))
  decl-living method id (Some knowns.Class) living e = absurd (true≢false (sym e))
  decl-living method id (Some (knowns.Method kind)) living e = absurd (true≢false (sym e))
  decl-living method id (Some (knowns.Decl own)) true e = ap Some (sym (id_tied method own (and-both (same_id method own) true e).0))
  decl-living method id (Some (knowns.Decl own)) false e = absurd (true≢false (sym (and-both (same_id method own) false e).1))
  decl-living method id (Some knowns.Field) living e = absurd (true≢false (sym e))
  decl-living method id (Some (knowns.Param own)) living e = absurd (true≢false (sym e))

  -- the owner of a topmost declaration is on the way of the owner of each
  pub topmost-above : (method decl below : Id) → is_topmost program method decl ≡ true → living_of program below ≡ Some method
      → is_above program (owner_at program below) (owner_at program decl) ≡ true
  topmost-above method decl below top living =
      let all = (and-both _ (list_all (is_above_living program method decl) (entries program.known)) top).1 in
      let known = living-decl method below (get program.known below) (living_at program below) living in
      let passes = at-key (is_above_living program method decl) (entries program.known) all below known.0 (sym (get-entries program.known below) ∙ known.1) in
      sym (ap (λ b. not b || is_above program (owner_at program below) (owner_at program decl)) known.2) ∙ passes

  pub topmost-lives : (method decl : Id) → is_topmost program method decl ≡ true → living_of program decl ≡ Some method
  topmost-lives method decl top = decl-living method decl (get program.known decl) (living_at program decl) (and-both _ (list_all (is_above_living program method decl) (entries program.known)) top).0

  -- it has an owner
  above-owned : (below above : Option Id) → is_above program below above ≡ true → (class : Id) × (above ≡ Some class)
  above-owned None above e = absurd (true≢false (sym e))
  above-owned (Some owner) None e = absurd (true≢false (sym e))
  above-owned (Some owner) (Some class) e = (class, refl)

  pub known-among : (method decl : Id) → living_of program decl ≡ Some method → list_any (same_id decl) (keys program.known) ≡ true
  known-among method decl living =
      sym (contains_key-keys program.known decl) ∙ ap is_some (living-decl method decl (get program.known decl) (living_at program decl) living).1

  topmost-declared : (decls : List Id) → ((id : Id) → list_any (same_id id) decls ≡ list_any (same_id id) (keys program.known)) → (method decl : Id) → is_topmost program method decl ≡ true
      → (class : Id) × IsDeclared maps decls method decl class
  topmost-declared decls all method decl top =
      let living = topmost-lives method decl top in
      let owned = above-owned (owner_at program decl) (owner_at program decl) (topmost-above method decl decl top living) in
      (owned.0, record { among = all decl ∙ known-among method decl living; declares = living; owned = owned.1 })

  same-owner : (method top decl : Id) → is_topmost program method top ≡ true → living_of program decl ≡ Some method → owner_at program decl ≡ owner_at program top → is_topmost program method decl ≡ true
  same-owner method top decl is-top living owned =
      let known = living-decl method decl (get program.known decl) (living_at program decl) living in
      let all = (and-both _ (list_all (is_above_living program method top) (entries program.known)) is-top).1 in
      ap (λ o. option_map_or (λ what. is_decl_of method what && living_at program decl) o false && list_all (is_above_living program method decl) (entries program.known)) known.1
      ∙ ap (λ b. b && list_all (is_above_living program method decl) (entries program.known)) known.2
      ∙ ap (λ (o : Option Id). list_all (λ (below : Id × Known). not (is_living_decl program method below) || is_above program (owner_at program below.0) o) (entries program.known)) owned
      ∙ all

  pub found-passes : (p : Id → Bool) (ks : List Id) (k : Id) → find p ks ≡ Some k → p k ≡ true
  found-passes p [] k e = absurd (none-some k e)
  found-passes p (x ∷ ks) k e = at (p x) refl e (found-passes p ks k) where
    at : (b : Bool) → p x ≡ b → cond b (Some x) (find p ks) ≡ Some k → (find p ks ≡ Some k → p k ≡ true) → p k ≡ true
    at true is h later = subst (λ y. p y ≡ true) (some-same x k h) is
    at false is h later = later h

  not-found : (p : Id → Bool) (ks : List Id) → find p ks ≡ None → (k : Id) → list_any (same_id k) ks ≡ true → p k ≡ false
  not-found p [] e k h = absurd (true≢false (sym h))
  not-found p (x ∷ ks) e k h = at (p x) refl e (same_id k x) refl h (λ e. not-found p ks e k) where
    at : (b : Bool) → p x ≡ b → cond b (Some x) (find p ks) ≡ None → (s : Bool) → same_id k x ≡ s → (s || list_any (same_id k) ks) ≡ true
        → (find p ks ≡ None → list_any (same_id k) ks ≡ true → p k ≡ false) → p k ≡ false
    at true is h s same any rest = absurd (none-some x (sym h))
    at false is h true same any rest = ap p (id_tied k x same) ∙ is
    at false is h false same any rest = rest h any

  module _ (together : (method : Id) → ¬ (Apart program method)) where
    -- the first of all living declarations is the topmost
    pub found : (decls : List Id) → ((id : Id) → list_any (same_id id) decls ≡ list_any (same_id id) (keys program.known))
        → (tops : List (Id × Top)) → AreTops maps decls tops → (method : Id) → top_in tops method ≡ topmost program method
    found decls all tops are method = by (get (tops_of tops) method) (are method) (topmost program method) refl where
      none-passes : find (is_topmost program method) (keys program.known) ≡ None → (decl : Id) → is_topmost program method decl ≡ false
      none-passes none decl = at (is_topmost program method decl) refl where
        at : (b : Bool) → is_topmost program method decl ≡ b → is_topmost program method decl ≡ false
        at true e = not-found (is_topmost program method) (keys program.known) none decl (known-among method decl (topmost-lives method decl e))
        at false e = e

      lives-by : (decl class : Id) → IsDeclared maps decls method decl class → lives_method program method ≡ true
      lives-by decl class declared =
          let known = living-decl method decl (get program.known decl) (living_at program decl) declared.declares in
          any-key (is_living_decl program method) (entries program.known) decl known.0 (sym (get-entries program.known decl) ∙ known.1) known.2
        where
          any-key : (p : Id × Known → Bool) (es : List (Id × Known)) (id : Id) (known : Known) → finite.find id_cmp id es ≡ Some known → p (id, known) ≡ true → list_any p es ≡ true
          any-key p [] id known is passes = absurd (none-some known is)
          any-key p (e ∷ es) id known is passes = at (same_id id e.0) refl is (λ h. any-key p es id known h passes) where
            at : (b : Bool) → same_id id e.0 ≡ b → cond b (Some e.1) (finite.find id_cmp id es) ≡ Some known → (finite.find id_cmp id es ≡ Some known → list_any p es ≡ true)
                → (p e || list_any p es) ≡ true
            at true same h rest = or-left (p e) (list_any p es) (sym (ap p (λ i. (id_tied id e.0 same i, some-same known e.1 (sym h) i))) ∙ passes)
            at false same h rest = or-right (p e) (list_any p es) (rest h)

      both-same : (top t : Id) → is_lt (id_cmp t top) ≡ false → is_lt (id_cmp top t) ≡ false → top ≡ t
      both-same top t not-before not-after = id_cmp-IsAntisymmetric top t (at (id_cmp top t) refl) where
        at : (o : Ordering) → id_cmp top t ≡ o → id_cmp top t ≡ Equal
        at Less e = absurd (true≢false (ap is_lt (sym e) ∙ not-after))
        at Equal e = e
        at Greater e = absurd (true≢false (sym (ap is_lt (id_cmp-total.antisymm t top ∙ ap ordering_reverse e)) ∙ not-before))

      by : (o : Option Top) → TopIs maps decls method o → (t : Option Id) → topmost program method ≡ t → option_map (λ (top : Top). top.decl) o ≡ topmost program method
      by None none None is = sym is
      by None none (Some t) is =
          let declared = topmost-declared decls all method t (found-passes (is_topmost program method) (keys program.known) t is) in
          absurd (none t declared.0 declared.1)
      by (Some top) first None is = absurd (together method (record { method_lives = lives-by top.decl first.class first.declared; none_topmost = none-passes is }))
      by (Some top) first (Some t) is = ap Some same ∙ sym is where
        passes : is_topmost program method t ≡ true
        passes = found-passes (is_topmost program method) (keys program.known) t is

        t-declared : (class : Id) × IsDeclared maps decls method t class
        t-declared = topmost-declared decls all method t passes

        above : is_on_way program first.class t-declared.0 ≡ true
        above = sym (λ i. is_above program (first.declared.owned i) (t-declared.1.owned i)) ∙ topmost-above method t top.decl passes first.declared.declares

        not-less : is_lt (top_cmp (top_of maps t t-declared.0) (top_of maps top.decl first.class)) ≡ false
        not-less = ap (λ x. is_lt (top_cmp (top_of maps t t-declared.0) x)) (sym first.high) ∙ first.least t t-declared.0 t-declared.1

        one-class : Higher t-declared.0 first.class → t-declared.0 ≡ first.class
        one-class (inl e) = e
        one-class (inr less) = absurd (true≢false (sym (lower (height_in maps t-declared.0) (height_in maps first.class) less (id_cmp t top.decl)) ∙ not-less)) where
          nat-less : (a b : ℕ) → a < b → nat_cmp a b ≡ Less
          nat-less a b less = at (nat_cmp a b) refl (ranked a b (nat_cmp a b) refl) where
            at : (r : Ordering) → nat_cmp a b ≡ r → MatchOrdering r (a < b) (a ≡ b) (b < a) → nat_cmp a b ≡ Less
            at Less e m = e
            at Equal e m = absurd (omega (arith, m, less))
            at Greater e m = absurd (omega (arith, m, less))

          lower : (a b : ℕ) → a < b → (o : Ordering) → is_lt (ordering_then (nat_cmp a b) o) ≡ true
          lower a b less o = ap (λ c. is_lt (ordering_then c o)) (nat-less a b less)

        class-same : t-declared.0 ≡ first.class
        class-same = one-class (on-walk (suc (len program.known)) [] first.class t-declared.0 first.ends above)

        heights : nat_cmp (height_in maps t-declared.0) (height_in maps first.class) ≡ Equal
        heights = ap (λ x. nat_cmp (height_in maps x) (height_in maps first.class)) class-same ∙ tied _ ((eq_by_cmp_equiv nat_cmp_total).refl (height_in maps first.class))

        id-not-less : is_lt (id_cmp t top.decl) ≡ false
        id-not-less = sym (ap (λ o. is_lt (ordering_then o (id_cmp t top.decl))) heights) ∙ not-less

        same : top.decl ≡ t
        same = both-same top.decl t id-not-less (find-first (is_topmost program method) (keys program.known) (known-ascend program) t is top.decl
            (same-owner method t top.decl passes first.declared.declares (first.declared.owned ∙ ap Some (sym class-same) ∙ sym t-declared.1.owned))
            (known-among method top.decl first.declared.declares))
