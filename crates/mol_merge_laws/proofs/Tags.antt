-- Two logs that share no tag: which goes first, and their entries.
use Rattle.std.proofs.Common.{◌≡◌, ◌≢◌, ◌∙◌, refl, sym, ap, subst, true≢false, ℕ, List, [], ◌∷◌, None, Some, Contains, Ordering, Less, Equal, Greater, ◌⊎◌, inl, inr}
use Rattle.std.proofs.Common.{rules}
use Rattle.std.proofs.Math.Bool.{Bool-set}
use Rattle.std.proofs.Math.Logic.{∥∥₁_elim}
use Rattle.std.proofs.lemmas.Bool.{and_from}
use Rattle.std.proofs.lemmas.List.Elements.{All-contains}
use Rattle.std.proofs.lemmas.Slice.Eq.{bytes_eq-Decides}
use Rattle.std.specs.Bool.{Decides}
use Rattle.std.specs.Cmp.{IsTotalOrder}
use Rattle.std.specs.Cmp.Rules.{comparing}
use Rattle.std.specs.List.{AllByRecursion, list_all, list_any}
use Rattle.std.specs.List.Sorted.{IsStrictlySortedBy}
use Rattle.std.specs.Ordering.{is_lt, ordering_reverse}
use Rattle.std.specs.Prelude.{◌&&◌, ◌↔◌, true, false, cond, nat_lt}
use Rattle.std.specs.Str.{bytes_eq}
use Rattle.jav_names.proofs.Lists.{list_any-decides, find-none, find-holds_of_none, find-least, stands_first, All-from_each}
use Rattle.jav_names.specs.Choices.{IsLeast, HoldsOfNone}
use Rattle.jav_names.specs.Views.{IsKeyOrder}
use Rattle.mol_base.proofs.Tags.{both_true}
use Rattle.mol_base.specs.Order.{tag_cmp, tag_cmp-IsAntisymmetric}
use Rattle.mol_base.specs.declared.ident.Stamp.{Stamp}
use Rattle.mol_log.specs.LogForms.{Follow}
use Rattle.mol_log.specs.declared.entries.entry.Entry.{Entry}
use Rattle.mol_log.specs.declared.log.Log.{Log}
use Rattle.mol_log_rows.specs.lines.Headers.{are_tags, ascend, some_tags}
use Rattle.mol_log_rows.specs.lines.Stamps.{last_number}
use Rattle.mol_log_rules.specs.Histories.{Stamped}
use Rattle.mol_log_rules.specs.Logs.{history, history_of}
use Rattle.mol_merge_rules.specs.TwoLogs.{first_tag, comes_first, lesser, greater, ShareNoTag, least_shared, TagsDiffer}

pub tag_order : IsKeyOrder tag_cmp
tag_order = record { total = total; same = tag_cmp-IsAntisymmetric } where
  total : IsTotalOrder tag_cmp
  total = search (comparing, rules) depth 9

-- ---- tags of a log

pub tags-right : (log : Log) → are_tags log.tags ≡ true
tags-right log = ∥∥₁_elim log.formed (Bool-set (are_tags log.tags) true) (λ is. is.tagged)

-- a tag that the test finds among tags is one of them
pub listed-decides : (tags : List (List ℕ)) (tag : List ℕ) → Decides (list_any (bytes_eq tag) tags) (Contains tags tag)
listed-decides tags tag = (
  λ is. let found = some.0 is in subst (Contains tags) (sym found.2) found.1,
  λ stands. some.1 (tag, stands, refl),
) where
  some : Decides (list_any (bytes_eq tag) tags) ((x : List ℕ) × Contains tags x × (tag ≡ x))
  some = list_any-decides (λ x. tag ≡ x) (bytes_eq tag) (bytes_eq-Decides tag) tags

less_is : (o : Ordering) → is_lt o ≡ true → o ≡ Less
less_is Less is = refl
less_is Equal is = absurd (true≢false (sym is))
less_is Greater is = absurd (true≢false (sym is))

-- what is less than the first of them is less than each
over : (tag next : List ℕ) → tag_cmp tag next ≡ Less → (more : List (List ℕ)) → AllByRecursion (λ x. tag_cmp next x ≡ Less) more
    → AllByRecursion (λ x. tag_cmp tag x ≡ Less) more
over tag next less [] all = tt {0}
over tag next less (x ∷ more) all = (tag_order.total.trans tag next x less all.0, over tag next less more all.1)

put-before : (tag next : List ℕ) (more : List (List ℕ)) → tag_cmp tag next ≡ Less → IsStrictlySortedBy tag_cmp (next ∷ more)
    → IsStrictlySortedBy tag_cmp (tag ∷ next ∷ more)
unfolding IsStrictlySortedBy
put-before tag next more less up = ((less, over tag next less more up.0), up)

ascends : (tags : List (List ℕ)) → ascend tags ≡ true → IsStrictlySortedBy tag_cmp tags
unfolding IsStrictlySortedBy
ascends [] up = tt
ascends (tag ∷ []) up = (tt {0}, tt)
ascends (tag ∷ next ∷ more) up =
    let parts = both_true (is_lt (tag_cmp tag next)) (ascend (next ∷ more)) up in
    put-before tag next more (less_is (tag_cmp tag next) parts.0) (ascends (next ∷ more) parts.1)

pub tags-ascend : (log : Log) → IsStrictlySortedBy tag_cmp log.tags
tags-ascend log = ascends log.tags (both_true (some_tags log.tags && list_all _ log.tags) (ascend log.tags) (tags-right log)).1

-- the first tag is one of them
pub first-listed : (log : Log) → Contains log.tags (first_tag log)
first-listed log = by log.tags (tags-right log) where
  first_of : List (List ℕ) → List ℕ
  first_of [] = []
  first_of (tag ∷ tags) = tag

  by : (tags : List (List ℕ)) → are_tags tags ≡ true → Contains tags (first_of tags)
  by [] right = absurd (true≢false (sym right))
  by (tag ∷ tags) right = stands_first tag tags

-- ---- shared tags

-- without a shared tag the first tags differ
first-apart : (one other : Log) → ShareNoTag one other → first_tag one ≢ first_tag other
first-apart one other apart same = apart (first_tag one) (first-listed one) (subst (Contains other.tags) (sym same) (first-listed other))

-- so one of the two is less
one-first : (one other : Log) → ShareNoTag one other → (comes_first one other ≡ true) × (comes_first other one ≡ false)
    ⊎ (comes_first one other ≡ false) × (comes_first other one ≡ true)
one-first one other apart = by (tag_cmp (first_tag one) (first_tag other)) refl where
  back : (o : Ordering) → tag_cmp (first_tag one) (first_tag other) ≡ o → comes_first other one ≡ is_lt (ordering_reverse o)
  back o is = ap is_lt (tag_order.total.antisymm (first_tag other) (first_tag one) ∙ ap ordering_reverse is)

  by : (o : Ordering) → tag_cmp (first_tag one) (first_tag other) ≡ o → (comes_first one other ≡ true) × (comes_first other one ≡ false)
      ⊎ (comes_first one other ≡ false) × (comes_first other one ≡ true)
  by Less is = inl (ap is_lt is, back Less is)
  by Equal is = absurd (first-apart one other apart (tag_order.same (first_tag one) (first_tag other) is))
  by Greater is = inr (ap is_lt is, back Greater is)

pub lesser-turned : (one other : Log) → ShareNoTag one other → lesser other one ≡ lesser one other
lesser-turned one other apart = by (one-first one other apart) where
  by : (comes_first one other ≡ true) × (comes_first other one ≡ false) ⊎ (comes_first one other ≡ false) × (comes_first other one ≡ true)
      → lesser other one ≡ lesser one other
  by (inl is) = ap (λ b. cond b other one) is.1 ∙ sym (ap (λ b. cond b one other) is.0)
  by (inr is) = ap (λ b. cond b other one) is.1 ∙ sym (ap (λ b. cond b one other) is.0)

pub greater-turned : (one other : Log) → ShareNoTag one other → greater other one ≡ greater one other
greater-turned one other apart = by (one-first one other apart) where
  by : (comes_first one other ≡ true) × (comes_first other one ≡ false) ⊎ (comes_first one other ≡ false) × (comes_first other one ≡ true)
      → greater other one ≡ greater one other
  by (inl is) = ap (λ b. cond b one other) is.1 ∙ sym (ap (λ b. cond b other one) is.0)
  by (inr is) = ap (λ b. cond b one other) is.1 ∙ sym (ap (λ b. cond b other one) is.0)

pub apart-turned : (one other : Log) → ShareNoTag one other → ShareNoTag other one
apart-turned one other apart tag second first = apart tag first second

pub none-shared : (one other : Log) → (least_shared one other ≡ None) ↔ ShareNoTag one other
none-shared one other = (
  λ none tag first. All-contains (λ t. ¬ (Contains other.tags t)) one.tags tag
      (find-none (Contains other.tags) _ (listed-decides other.tags) one.tags none) first,
  λ apart. find-holds_of_none (Contains other.tags) _ (listed-decides other.tags) one.tags (each one.tags (λ tag stands. apart tag stands)),
) where
  each : (tags : List (List ℕ)) → ((tag : List ℕ) → Contains tags tag → ¬ (Contains other.tags tag))
      → HoldsOfNone (Contains other.tags) tags
  each tags none = All-from_each (λ t. ¬ (Contains other.tags t)) tags none

pub shared-least : (one other : Log) (tag : List ℕ) → least_shared one other ≡ Some tag
    → IsLeast tag_cmp (λ t. t) (Contains other.tags) one.tags tag
shared-least one other tag is =
    find-least tag_cmp (λ t. t) tag_order (Contains other.tags) _ (listed-decides other.tags) one.tags tag (tags-ascend one) is

-- ---- tags of entries

-- each entry has a tag of its log
entries-listed : (tags : List (List ℕ)) (earlier : List Stamp) (entries : List Entry) → Follow tags earlier entries
    → list_all (λ (entry : Entry). list_any (bytes_eq entry.stamp.tag) tags) entries ≡ true
entries-listed tags earlier [] follow = refl
entries-listed tags earlier (entry ∷ entries) follow =
    and_from (list_any (bytes_eq entry.stamp.tag) tags) (list_all (λ (entry : Entry). list_any (bytes_eq entry.stamp.tag) tags) entries)
    (both_true (list_any (bytes_eq entry.stamp.tag) tags) (nat_lt (last_number entry.stamp.tag earlier) entry.stamp.seq) follow.0).0
    (entries-listed tags (entry.stamp ∷ earlier) entries follow.1)

each-listed : (log : Log) → list_all (λ (entry : Entry). list_any (bytes_eq entry.stamp.tag) log.tags) log.entries ≡ true
each-listed log =
    ∥∥₁_elim log.formed (Bool-set (list_all (λ (entry : Entry). list_any (bytes_eq entry.stamp.tag) log.tags) log.entries) true)
    (λ is. entries-listed log.tags [] log.entries is.follow)

module _ (one other : Log) (apart : ShareNoTag one other) where
  from-other : (tag : List ℕ) → Contains one.tags tag → (entries : List Entry)
      → list_all (λ (entry : Entry). list_any (bytes_eq entry.stamp.tag) other.tags) entries ≡ true
      → AllByRecursion (λ (second : Stamped). tag ≢ second.stamp.tag) (history_of entries)
  from-other tag stands [] all = tt {0}
  from-other tag stands (entry ∷ entries) all =
      let parts = both_true (list_any (bytes_eq entry.stamp.tag) other.tags) (list_all _ entries) all in (
        λ same. apart tag stands (subst (Contains other.tags) (sym same) ((listed-decides other.tags entry.stamp.tag).0 parts.0)),
        from-other tag stands entries parts.1,
      )

  from-one : (entries : List Entry) → list_all (λ (entry : Entry). list_any (bytes_eq entry.stamp.tag) one.tags) entries ≡ true
      → TagsDiffer (history_of entries) (history other)
  from-one [] all = tt {0}
  from-one (entry ∷ entries) all =
      let parts = both_true (list_any (bytes_eq entry.stamp.tag) one.tags) (list_all _ entries) all in (
        from-other entry.stamp.tag ((listed-decides one.tags entry.stamp.tag).0 parts.0) other.entries (each-listed other),
        from-one entries parts.1,
      )

  pub tags-differ : TagsDiffer (history one) (history other)
  tags-differ = from-one one.entries (each-listed one)
