-- The log of two that share no tag.
use Rattle.std.proofs.Common.{◌≡◌, ◌≢◌, ◌∙◌, refl, sym, ap, subst, ℕ, ◌+◌, ◌≤◌, List, [], ◌∷◌, ◌++◌, length, Contains, ◌⊎◌, inl, inr}
use Rattle.std.proofs.Math.Logic.{∥∥₁_map₂}
use Rattle.std.proofs.lemmas.Bool.{and_from}
use Rattle.std.proofs.lemmas.List.{length-append}
use Rattle.std.proofs.lemmas.List.Elements.{Contains-append_left, Contains-append_right, Contains-append_cases}
use Rattle.std.proofs.lemmas.Slice.Eq.{bytes_eq-Decides}
use Rattle.std.specs.List.{list_all, list_any}
use Rattle.std.specs.List.Sorted.{IsStrictlySortedBy}
use Rattle.std.specs.Ordering.{is_lt}
use Rattle.std.specs.Prelude.{◌&&◌, Bool, true, cond, nat_lt}
use Rattle.std.specs.Str.{bytes_eq}
use Rattle.jav_names.proofs.Lists.{Decides-fails, stands_first, stands_later, stands_nowhere, stands_where}
use Rattle.mol_base.proofs.Tags.{both_true}
use Rattle.mol_base.specs.Limits.{most}
use Rattle.mol_base.specs.Order.{tag_cmp}
use Rattle.mol_base.specs.Spelled.{is_tag}
use Rattle.mol_base.specs.declared.ident.Stamp.{Stamp}
use Rattle.mol_base.specs.declared.limit.Which.TheVariants.{Operations}
use Rattle.mol_log.specs.LogForms.{Follow, IsLog}
use Rattle.mol_log.specs.declared.entries.entry.Entry.{Entry}
use Rattle.mol_log.specs.declared.log.Log.{Log}
use Rattle.mol_log_rows.specs.lines.Headers.{are_tags, ascend, some_tags}
use Rattle.mol_log_rows.specs.lines.Stamps.{last_number}
use Rattle.mol_log_rules.proofs.Appended.{follow-append, stamps_behind}
use Rattle.mol_log_rules.proofs.LeftOut.{follow-tags}
use Rattle.mol_log_rules.proofs.LogEntries.{history-append}
use Rattle.mol_log_rules.specs.Logs.{history, history_of}
use Rattle.mol_merge_laws.proofs.Tags.{tag_order, first-listed, listed-decides}
use Rattle.mol_merge_rules.specs.TwoLogs.{first_tag, ShareNoTag, IsMergedLog}
use Rattle.mol_spell_rules.proofs.SetItems.{set-ascends, set-has}
use Rattle.mol_spell_rules.specs.Sets.{as_set}

-- ---- tags

ascend-of : (tags : List (List ℕ)) → IsStrictlySortedBy tag_cmp tags → ascend tags ≡ true
unfolding IsStrictlySortedBy
ascend-of [] up = refl
ascend-of (tag ∷ []) up = refl
ascend-of (tag ∷ next ∷ more) up =
    and_from (is_lt (tag_cmp tag next)) (ascend (next ∷ more)) (ap is_lt up.0.0) (ascend-of (next ∷ more) up.1)

-- a test that each of a list passes, all of it pass
all-of : {X : Type 0} (p : X → Bool) (xs : List X) → ((x : X) → Contains xs x → p x ≡ true) → list_all p xs ≡ true
all-of p [] each = refl
all-of p (x ∷ xs) each =
    and_from (p x) (list_all p xs) (each x (stands_first x xs)) (all-of p xs (λ y stands. each y (stands_later x y xs stands)))

pub each-of : {X : Type 0} (p : X → Bool) (xs : List X) → list_all p xs ≡ true → (x : X) → Contains xs x → p x ≡ true
each-of p [] all x stands = absurd (stands_nowhere x stands)
each-of {X} p (y ∷ xs) all x stands = at (stands_where y x xs stands) (each-of p xs parts.1 x) where
  parts : (p y ≡ true) × (list_all p xs ≡ true)
  parts = both_true (p y) (list_all p xs) all

  at : (y ≡ x) ⊎ Contains xs x → (Contains xs x → p x ≡ true) → p x ≡ true
  at (inl same) more = ap p (sym same) ∙ parts.0
  at (inr later) more = more later

some-of : (tags : List (List ℕ)) (tag : List ℕ) → Contains tags tag → some_tags tags ≡ true
some-of [] tag stands = absurd (stands_nowhere tag stands)
some-of (first ∷ tags) tag stands = refl

-- ---- entries

-- a tag that is not listed has no number among the entries
none-behind : (tags : List (List ℕ)) (earlier : List Stamp) (entries : List Entry) (tag : List ℕ) → Follow tags earlier entries
    → ¬ (Contains tags tag) → last_number tag (stamps_behind earlier entries) ≡ last_number tag earlier
none-behind tags earlier [] tag follow not = refl
none-behind tags earlier (entry ∷ entries) tag follow not =
    none-behind tags (entry.stamp ∷ earlier) entries tag follow.1 not
    ∙ ap (λ b. cond b entry.stamp.seq (last_number tag earlier)) (Decides-fails (bytes_eq-Decides tag entry.stamp.tag) other)
  where
    other : tag ≢ entry.stamp.tag
    other same = not (subst (Contains tags) (sym same) ((listed-decides tags entry.stamp.tag).0
        (both_true (list_any (bytes_eq entry.stamp.tag) tags) (nat_lt (last_number entry.stamp.tag earlier) entry.stamp.seq) follow.0).0))

-- entries follow whatever gives their own tags the same last numbers
follow-own : (tags : List (List ℕ)) (before earlier : List Stamp) (entries : List Entry)
    → ((tag : List ℕ) → Contains tags tag → last_number tag before ≡ last_number tag earlier)
    → Follow tags earlier entries → Follow tags before entries
follow-own tags before earlier [] alike follow = tt {0}
follow-own tags before earlier (entry ∷ entries) alike follow =
    let parts = both_true (list_any (bytes_eq entry.stamp.tag) tags) (nat_lt (last_number entry.stamp.tag earlier) entry.stamp.seq) follow.0
    in (
      and_from (list_any (bytes_eq entry.stamp.tag) tags) (nat_lt (last_number entry.stamp.tag before) entry.stamp.seq) parts.0
          (ap (λ n. nat_lt n entry.stamp.seq) (alike entry.stamp.tag ((listed-decides tags entry.stamp.tag).0 parts.0)) ∙ parts.1),
      follow-own tags (entry.stamp ∷ before) (entry.stamp ∷ earlier) entries
          (λ tag stands. ap (cond (bytes_eq tag entry.stamp.tag) entry.stamp.seq) (alike tag stands)) follow.1,
    )

-- ---- both

module _ (one other : Log) where
  abbrev tags : List (List ℕ)
  tags = as_set tag_cmp (one.tags ++ other.tags)

  of-one : (tag : List ℕ) → Contains one.tags tag → Contains tags tag
  of-one tag stands = (set-has tag_cmp tag_order (one.tags ++ other.tags) tag).1 (Contains-append_left one.tags other.tags tag stands)

  of-other : (tag : List ℕ) → Contains other.tags tag → Contains tags tag
  of-other tag stands = (set-has tag_cmp tag_order (one.tags ++ other.tags) tag).1 (Contains-append_right one.tags other.tags tag stands)

  wider : (part : List (List ℕ)) → ((tag : List ℕ) → Contains part tag → Contains tags tag) → (tag : List ℕ)
      → list_any (bytes_eq tag) part ≡ true → list_any (bytes_eq tag) tags ≡ true
  wider part more tag is = (listed-decides tags tag).1 (more tag ((listed-decides part tag).0 is))

  tags-formed : are_tags one.tags ≡ true → are_tags other.tags ≡ true → are_tags tags ≡ true
  tags-formed first second =
      and_from (some_tags tags && list_all is_tag tags) (ascend tags)
      (and_from (some_tags tags) (list_all is_tag tags)
      (some-of tags (first_tag one) (of-one (first_tag one) (first-listed one)))
      (all-of is_tag tags (λ tag stands. from tag (Contains-append_cases one.tags other.tags tag
      ((set-has tag_cmp tag_order (one.tags ++ other.tags) tag).0 stands)))))
      (ascend-of tags (set-ascends tag_cmp tag_order (one.tags ++ other.tags)))
    where
      right : (part : List (List ℕ)) → are_tags part ≡ true → list_all is_tag part ≡ true
      right part is = (both_true (some_tags part) (list_all is_tag part)
          (both_true (some_tags part && list_all is_tag part) (ascend part) is).0).1

      from : (tag : List ℕ) → Contains one.tags tag ⊎ Contains other.tags tag → is_tag tag ≡ true
      from tag (inl stands) = each-of is_tag one.tags (right one.tags first) tag stands
      from tag (inr stands) = each-of is_tag other.tags (right other.tags second) tag stands

  module _ (apart : ShareNoTag one other) (few : length one.entries + length other.entries ≤ most Operations) where
    both-log : IsLog one.tags one.entries → IsLog other.tags other.entries → IsLog tags (one.entries ++ other.entries)
    both-log first second = record {
      tagged = tags-formed first.tagged second.tagged;
      few = subst (λ n. n ≤ most Operations) (sym (length-append one.entries other.entries)) few;
      follow = (follow-append tags [] one.entries other.entries).1 (
        follow-tags one.tags tags [] one.entries (wider one.tags of-one) first.follow,
        follow-tags other.tags tags (stamps_behind [] one.entries) other.entries (wider other.tags of-other)
            (follow-own other.tags (stamps_behind [] one.entries) [] other.entries
            (λ tag stands. none-behind one.tags [] one.entries tag first.follow (λ in_one. apart tag in_one stands)) second.follow),
      );
    }

    pub merged-formed : ∥ IsLog tags (one.entries ++ other.entries) ∥₁
    merged-formed = ∥∥₁_map₂ one.formed other.formed both-log

-- what the entries of both are to a program
pub merged-history : (one other merged : Log) → IsMergedLog one other merged → history merged ≡ history one ++ history other
merged-history one other merged is = ap history_of is.entries ∙ history-append one.entries other.entries
