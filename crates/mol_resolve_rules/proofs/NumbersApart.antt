-- What stands in files has numbers of its own.
use Rattle.std.proofs.Common.{◌≡◌, ℕ, suc, zero, ◌<◌, ◌==◌, Bool, true, false, ◌&&◌, if◌then◌else◌, List, [], ◌∷◌, length, Some, find, slice_get, slice_index_or, Contains, refl, sym, ◌∙◌, ap, arith, Ordering, Less, Equal, Greater, true≢false, eqb-true, eq-eqb}
use Rattle.std.specs.List.{position_or_len}
use Rattle.std.specs.Ordering.{is_eq}
use Rattle.std.proofs.lemmas.Cmp.{tied_itself}
use Rattle.std.proofs.lemmas.List.Folds.{find_at}
use Rattle.mol_base.specs.declared.ident.Id.{Id}
use Rattle.jav_names.specs.UnitViews.{MemberKey, member_key_cmp}
use Rattle.jav_names.specs.Views.{IsKeyOrder}
use Rattle.jav_names.proofs.UnitsViewed.{units_viewed}
use Rattle.mol_resolve_rules.specs.Files.{Files}
use Rattle.mol_resolve_rules.specs.Laws.{NumbersApart}
use Rattle.mol_resolve_rules.specs.Numbering.{Numbered, numbered_class, numbered_member, numbered_method, numbered_param, same_key, same_numbered, in_order, id_at}

-- ---- whether two are one

keys-ordered : IsKeyOrder member_key_cmp
keys-ordered = (units_viewed.ordered []).order

equal : (o : Ordering) → is_eq o ≡ true → o ≡ Equal
equal Less is = absurd (true≢false (sym is))
equal Equal is = refl
equal Greater is = absurd (true≢false (sym is))

pub key-self : (key : MemberKey) → same_key key key ≡ true
key-self key = ap is_eq (tied_itself keys-ordered.total key)

pub key-is : (first second : MemberKey) → same_key first second ≡ true → first ≡ second
key-is first second is = keys-ordered.same first second (equal (member_key_cmp first second) is)

both-true : (a b : Bool) → (a && b) ≡ true → (a ≡ true) × (b ≡ true)
both-true true b is = (refl, is)
both-true false b is = absurd (true≢false (sym is))

item-self : (item : Numbered) → same_numbered item item ≡ true
item-self (numbered_class number) = eq-eqb number number refl
item-self (numbered_member key) = key-self key
item-self (numbered_method key) = key-self key
item-self (numbered_param key place) = rw (key-self key) (eq-eqb place place refl)

item-is : (first second : Numbered) → same_numbered first second ≡ true → first ≡ second
item-is (numbered_class first) (numbered_class second) is = ap (λ number. numbered_class number) (eqb-true first second is)
item-is (numbered_member first) (numbered_member second) is = ap (λ key. numbered_member key) (key-is first second is)
item-is (numbered_method first) (numbered_method second) is = ap (λ key. numbered_method key) (key-is first second is)
item-is (numbered_param first place) (numbered_param second other) is =
    let parts = both-true (same_key first second) (place == other) is in
    let key = key-is first second parts.0 in
    let number = eqb-true place other parts.1 in
    λ i. numbered_param (key i) (number i)
item-is first second is = absurd (true≢false (sym is))

-- ---- places

-- what is in a list is found there
found-self : (item : Numbered) (items : List Numbered) → Contains items item → find (same_numbered item) items ≡ Some item
found-self item [] stands = absurd (omega (arith, stands.1))
found-self item (first ∷ rest) stands = by (same_numbered item first) refl (λ in_rest. found-self item rest in_rest) where
  later : (place : ℕ) → place < length (first ∷ rest) → slice_index_or (first ∷ rest) place item ≡ item → same_numbered item first ≡ false
      → Contains rest item
  later zero below is apart = absurd (true≢false (sym (item-self item) ∙ ap (same_numbered item) (sym is) ∙ apart))
  later (suc place) below is apart = (place, omega (arith, below), is)

  by : (b : Bool) → same_numbered item first ≡ b → (Contains rest item → find (same_numbered item) rest ≡ Some item)
      → (if b then Some first else find (same_numbered item) rest) ≡ Some item
  by true is onward = ap (λ found. Some found) (sym (item-is item first is))
  by false apart onward = onward (later stands.0 stands.1 stands.2 apart)

number_apart : (files : Files) (first second : Numbered) → Contains (in_order files) first → Contains (in_order files) second
    → id_at files first ≡ id_at files second → first ≡ second
number_apart files first second stands other same =
    let at : position_or_len (same_numbered first) (in_order files) ≡ position_or_len (same_numbered second) (in_order files)
    = let next : suc (position_or_len (same_numbered first) (in_order files)) ≡ suc
    (position_or_len (same_numbered second) (in_order files))
    = ap (λ (id : Id). id.num) same in omega (arith, next) in
    let found : Some first ≡ Some second = sym (found-self first (in_order files) stands) ∙ find_at (same_numbered first) (in_order files)
    ∙ ap (slice_get (in_order files)) at ∙ sym (find_at (same_numbered second) (in_order files))
    ∙ found-self second (in_order files) other in
    cc

pub numbers_apart : NumbersApart
numbers_apart = record { apart = number_apart }
