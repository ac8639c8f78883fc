-- All orders of two histories apply, and what they leave: by the laws of operations alone.
use Rattle.std.proofs.Common.{◌≡◌, ◌≢◌, ◌∙◌, refl, sym, ap, subst, ℕ, List, [], ◌∷◌, ◌++◌, Option, None, Some}
use mathlib.Core.Logic.{inl, inr}
use Rattle.std.specs.Prelude.{◌⊎◌, Bool, true, false, cond}
use Rattle.std.specs.List.{AllByRecursion}
use Rattle.std.specs.Option.{option_or}
use Rattle.std.specs.FinMap.{get}
use Rattle.mol_base.specs.declared.ident.Id.{Id}
use Rattle.mol_table_rules.specs.Program.{Program, Knowns, same_id}
use Rattle.mol_values_types.specs.declared.cell.Cell.{Cell}
use Rattle.mol_values_types.specs.declared.known.Known.{Known}
use Rattle.mol_values_types.specs.declared.value.Value.{Value}
use Rattle.mol_op.specs.ChangeLaws.{none-some, or-assoc, or-none, id_is, get-know_all, within-know_all}
use Rattle.mol_op.specs.Changes.{Name, know_all, written, last_write, first_name}
use Rattle.mol_op.specs.EntryLaws.{get-leaves}
use Rattle.mol_op.specs.Operation.{Within}
use Rattle.mol_log_rules.specs.Histories.{Stamped, History, changes, after, last, AppliesOn}
use Rattle.mol_log_rules.specs.Lawful.{IsLawful, AreLawful}
use Rattle.mol_merge_rules.specs.TwoLogs.{TagsDiffer}
use Rattle.mol_merge_rules.specs.Interleavings.{Interleaves, done, from_first, from_second}

pub each : {X : Type 0} (P Q : X → Type 0) → ((x : X) → P x → Q x) → (xs : List X) → AllByRecursion P xs → AllByRecursion Q xs
each P Q gives [] all = tt {0}
each P Q gives (x ∷ xs) all = (gives x all.0, each P Q gives xs all.1)

pub clash : {X : Type 0} (o : Option X) (x : X) → o ≡ Some x → o ≡ None → ⊥
clash o x some none = none-some x (sym none ∙ some)

-- what is said of each name is said of what the names say of an identity
pub first-each : (P : Id → Known → Type 0) (names : List Name) → AllByRecursion (λ (name : Name). P name.0 name.1) names
    → (id : Id) (what : Known) → first_name names id ≡ Some what → P id what
first-each P [] all id what is = absurd (none-some what is)
first-each P (name ∷ names) all id what is = by (same_id id name.0) refl is (λ later. first-each P names all.1 id what later) where
  by : (b : Bool) → same_id id name.0 ≡ b → cond b (Some name.1) (first_name names id) ≡ Some what
      → (first_name names id ≡ Some what → P id what) → P id what
  by true t so more =
      let same : name.1 ≡ what = cc in
      subst (P id) same (subst (λ q. P q name.1) (sym (id_is id name.0 t)) all.0)
  by false t so more = more so

pub all_in_order : {X : Type 0} (xs ys : List X) → Interleaves xs ys (xs ++ ys)
all_in_order [] [] = done
all_in_order [] (y ∷ ys) = from_second (all_in_order [] ys)
all_in_order (x ∷ xs) ys = from_first (all_in_order xs ys)

differ-tail : (other : Stamped) (one others : History) → TagsDiffer one (other ∷ others) → TagsDiffer one others
differ-tail other one others = each _ _ (λ first all. all.1) one

differ-head : (other : Stamped) (one others : History) → TagsDiffer one (other ∷ others)
    → AllByRecursion (λ (first : Stamped). other.stamp.tag ≢ first.stamp.tag) one
differ-head other one others = each _ _ (λ first all e. all.0 (sym e)) one

-- ---- what is known

-- what is known after both is what is known after either, and what one alone made known has no tag of the other's entries to come
record Union (l m w : Knowns) (one other : History) : Type 0 where
  left : Within l w
  right : Within m w
  either : (id : Id) (what : Known) → get w id ≡ Some what → (get l id ≡ Some what) ⊎ (get m id ≡ Some what)
  left_tags : (id : Id) (what : Known) → get l id ≡ Some what → get m id ≡ None
      → AllByRecursion (λ (entry : Stamped). id.tag ≢ entry.stamp.tag) other
  right_tags : (id : Id) (what : Known) → get m id ≡ Some what → get l id ≡ None
      → AllByRecursion (λ (entry : Stamped). id.tag ≢ entry.stamp.tag) one

swapped : {A B : Type 0} → A ⊎ B → B ⊎ A
swapped (inl a) = inr a
swapped (inr b) = inl b

turned : (l m w : Knowns) (one other : History) → Union l m w one other → Union m l w other one
turned l m w one other u = record {
  left = u.right;
  right = u.left;
  either = λ id what is. swapped (u.either id what is);
  left_tags = u.right_tags;
  right_tags = u.left_tags;
}

abbrev IsNamedIn : List ℕ → Knowns → Id → Known → Type 0
IsNamedIn tag known id what = (get known id ≡ Some what) ⊎ ((get known id ≡ None) × (id.tag ≡ tag))

-- an entry of the one applies after all that came before it of both
fits : (l m w : Knowns) (entry : Stamped) (one other : History) → IsLawful entry.stamp.tag entry.change → Union l m w (entry ∷ one) other
    → entry.change.fault l ≡ None → entry.change.fault w ≡ None
fits l m w entry one other law u is =
    law.grows l w is u.left (each _ _ (λ name so none. stay name.0 name.1 so none (get w name.0) refl) entry.change.names (law.named l is))
  where
    stay : (id : Id) (what : Known) → IsNamedIn entry.stamp.tag l id what → get l id ≡ None → (o : Option Known) → get w id ≡ o
        → get w id ≡ None
    stay id what (inl known) none o e = absurd (clash (get l id) what known none)
    stay id what (inr new) none None e = e
    stay id what (inr new) none (Some found) e = absurd (by (u.either id found e)) where
      by : (get l id ≡ Some found) ⊎ (get m id ≡ Some found) → ⊥
      by (inl known) = clash (get l id) found known none
      by (inr known) = (u.right_tags id found known none).0 new.1

-- and the union stays
step : (l m w : Knowns) (entry : Stamped) (one other : History) → IsLawful entry.stamp.tag entry.change → Union l m w (entry ∷ one) other
    → AllByRecursion (λ (later : Stamped). entry.stamp.tag ≢ later.stamp.tag) other
    → entry.change.fault l ≡ None → entry.change.fault w ≡ None
    → Union (know_all l entry.change.names) m (know_all w entry.change.names) one other
step l m w entry one other law u differ at_l at_w = record {
  left = λ id what is. to_w id what (get l id) refl is;
  right = λ id what is. within-know_all w names id what (u.right id what is);
  either = λ id what is. from_w id what (get w id) refl is;
  left_tags = λ id what is none. tags id what (get l id) refl is none;
  right_tags = λ id what is none. (u.right_tags id what is (unknown id (get l id) refl none)).1;
} where
  names : List Name
  names = entry.change.names

  at : (known : Knowns) (id : Id) → get (know_all known names) id ≡ option_or (get known id) (first_name names id)
  at known id = get-know_all names known id

  -- what becomes known in the one alone is named
  named_at : (known : Knowns) → entry.change.fault known ≡ None → (id : Id) (what : Known) → first_name names id ≡ Some what
      → IsNamedIn entry.stamp.tag known id what
  named_at known is = first-each (IsNamedIn entry.stamp.tag known) names (law.named known is)

  new_in : (known : Knowns) (id : Id) (what : Known) → get known id ≡ None → get (know_all known names) id ≡ Some what
      → first_name names id ≡ Some what
  new_in known id what none is = sym (ap (λ o. option_or o (first_name names id)) none) ∙ sym (at known id) ∙ is

  to_w : (id : Id) (what : Known) (o : Option Known) → get l id ≡ o → get (know_all l names) id ≡ Some what
      → get (know_all w names) id ≡ Some what
  to_w id what (Some k) e is =
      within-know_all w names id what (u.left id what (e ∙ sym (at l id ∙ ap (λ o. option_or o (first_name names id)) e) ∙ is))
  to_w id what None e is = by (named_at w at_w id what first) where
    first : first_name names id ≡ Some what
    first = new_in l id what e is

    by : IsNamedIn entry.stamp.tag w id what → get (know_all w names) id ≡ Some what
    by (inl known) = within-know_all w names id what known
    by (inr new) = at w id ∙ ap (λ o. option_or o (first_name names id)) new.0 ∙ first

  from_w : (id : Id) (what : Known) (o : Option Known) → get w id ≡ o → get (know_all w names) id ≡ Some what
      → (get (know_all l names) id ≡ Some what) ⊎ (get m id ≡ Some what)
  from_w id what (Some k) e is = by (u.either id what (e ∙ sym (at w id ∙ ap (λ o. option_or o (first_name names id)) e) ∙ is)) where
    by : (get l id ≡ Some what) ⊎ (get m id ≡ Some what) → (get (know_all l names) id ≡ Some what) ⊎ (get m id ≡ Some what)
    by (inl known) = inl (within-know_all l names id what known)
    by (inr known) = inr known
  from_w id what None e is = by (get l id) refl where
    by : (o : Option Known) → get l id ≡ o → (get (know_all l names) id ≡ Some what) ⊎ (get m id ≡ Some what)
    by (Some k) f = absurd (clash (get w id) k (u.left id k f) e)
    by None f = inl (at l id ∙ ap (λ o. option_or o (first_name names id)) f ∙ new_in w id what e is)

  tags : (id : Id) (what : Known) (o : Option Known) → get l id ≡ o → get (know_all l names) id ≡ Some what → get m id ≡ None
      → AllByRecursion (λ (later : Stamped). id.tag ≢ later.stamp.tag) other
  tags id what (Some k) e is none = u.left_tags id k e none
  tags id what None e is none = by (named_at l at_l id what (new_in l id what e is)) where
    by : IsNamedIn entry.stamp.tag l id what → AllByRecursion (λ (later : Stamped). id.tag ≢ later.stamp.tag) other
    by (inl known) = absurd (clash (get l id) what known e)
    by (inr new) = each _ _ (λ later apart same. apart (sym new.1 ∙ same)) other differ

  unknown : (id : Id) (o : Option Known) → get l id ≡ o → get (know_all l names) id ≡ None → get l id ≡ None
  unknown id None e none = e
  unknown id (Some k) e none = absurd (clash (get (know_all l names) id) k (within-know_all l names id k e) none)

abbrev no_entries : History
no_entries = []

abbrev done_by : Program → Stamped → Program
done_by program entry = written program entry.change.writes entry.change.names

-- in every order each entry's condition holds in turn, and what is known at the end is what is known after either
orders : {one other log : History} → Interleaves one other log → (l m w : Program) → Union l.known m.known w.known one other
    → TagsDiffer one other
    → AreLawful one → AreLawful other → AppliesOn l one → AppliesOn m other
    → AppliesOn w log × Union (after l one).known (after m other).known (after w log).known no_entries no_entries
orders done l m w u differ laws more first second = (tt {0}, u)
orders (from_first {x = entry} {xs = one} {ys = other} rest) l m w u differ laws more first second =
    let is = fits l.known m.known w.known entry one other laws.0 u first.0 in
    let so = orders rest (done_by l entry) m (done_by w entry)
    (step l.known m.known w.known entry one other laws.0 u differ.0 first.0 is) differ.1 laws.1 more first.1 second in
    ((is, so.0), so.1)
orders (from_second {y = entry} {xs = one} {ys = other} rest) l m w u differ laws more first second =
    let back = turned l.known m.known w.known one (entry ∷ other) u in
    let is = fits m.known l.known w.known entry other one more.0 back second.0 in
    let so = orders rest l (done_by m entry) (done_by w entry)
    (turned (done_by m entry).known l.known (done_by w entry).known other one
    (step m.known l.known w.known entry other one more.0 back (differ-head entry one other differ) second.0 is))
    (differ-tail entry one other differ) laws more.1 first second.1 in
    ((is, so.0), so.1)

-- ---- cells

-- what a history leaves in a cell: its last value, else what was there
pub last-cells : (history : History) (program : Program) (at : Cell)
    → get (after program history).cells at ≡ option_or (last history at) (get program.cells at)
last-cells history program at = get-leaves (changes history) program at

-- where both have a last value, it is the same
abbrev pub AgreeAt : History → History → Cell → Type 0
AgreeAt one other at = (x y : Value) → last one at ≡ Some x → last other at ≡ Some y → x ≡ y

exchanged : (l m x : Option Value) → ((a b : Value) → option_or l x ≡ Some a → m ≡ Some b → a ≡ b)
    → option_or (option_or l m) x ≡ option_or (option_or l x) m
exchanged (Some v) m x agree = refl
exchanged None None x agree = sym (or-none x)
exchanged None (Some v) None agree = refl
exchanged None (Some v) (Some w) agree = ap (λ v. Some v) (sym (agree w v refl refl))

-- the last value of an order is the last value of one of the histories
last-order : {one other log : History} → Interleaves one other log → (at : Cell) → AgreeAt one other at
    → last log at ≡ option_or (last one at) (last other at)
last-order done at agree = refl
last-order (from_first {x = entry} {xs = one} {ys = other} rest) at agree =
    let x = last_write entry.change.writes at in
    ap (λ o. option_or o x) (last-order rest at (λ a b is. agree a b (ap (λ o. option_or o x) is)))
    ∙ exchanged (last one at) (last other at) x agree
last-order (from_second {y = entry} {xs = one} {ys = other} rest) at agree =
    let x = last_write entry.change.writes at in
    ap (λ o. option_or o x) (last-order rest at (λ a b is also. agree a b is (ap (λ o. option_or o x) also)))
    ∙ or-assoc (last one at) (last other at) x

-- ---- two histories over a base

module _ (base : Program) (one other : History) (laws : AreLawful one) (more : AreLawful other)
    (first : AppliesOn base one) (second : AppliesOn base other) (differ : TagsDiffer one other) where
  start : Union base.known base.known base.known one other
  start = record {
    left = λ id what is. is;
    right = λ id what is. is;
    either = λ id what is. inl is;
    left_tags = λ id what is none. absurd (clash (get base.known id) what is none);
    right_tags = λ id what is none. absurd (clash (get base.known id) what is none);
  }

  pub order-applies : (log : History) → Interleaves one other log → AppliesOn base log
  order-applies log order = (orders order base base base start differ laws more first second).0

  pub order-known : (log : History) → Interleaves one other log → (id : Id)
      → get (after base log).known id ≡ option_or (get (after base one).known id) (get (after base other).known id)
  order-known log order id =
      by (orders order base base base start differ laws more first second).1 (get (after base one).known id) refl
      (get (after base other).known id) refl (get (after base log).known id) refl
    where
      by : Union (after base one).known (after base other).known (after base log).known no_entries no_entries
          → (a : Option Known) → get (after base one).known id ≡ a → (b : Option Known) → get (after base other).known id ≡ b
          → (c : Option Known) → get (after base log).known id ≡ c
          → get (after base log).known id ≡ option_or (get (after base one).known id) (get (after base other).known id)
      by u (Some k) a b e c i = u.left id k a ∙ ap (λ o. option_or o (get (after base other).known id)) (sym a)
      by u None a (Some k) e c i = u.right id k e ∙ sym e ∙ ap (λ o. option_or o (get (after base other).known id)) (sym a)
      by u None a None e None i = i ∙ sym e ∙ ap (λ o. option_or o (get (after base other).known id)) (sym a)
      by u None a None e (Some k) i = absurd (no (u.either id k i)) where
        no : (get (after base one).known id ≡ Some k) ⊎ (get (after base other).known id ≡ Some k) → ⊥
        no (inl known) = clash (get (after base one).known id) k known a
        no (inr known) = clash (get (after base other).known id) k known e

  pub order-cells : (log : History) → Interleaves one other log → (at : Cell) → AgreeAt one other at
      → get (after base log).cells at ≡ option_or (last one at) (option_or (last other at) (get base.cells at))
  order-cells log order at agree =
      last-cells log base at ∙ ap (λ o. option_or o (get base.cells at)) (last-order order at agree)
      ∙ or-assoc (last one at) (last other at) (get base.cells at)
