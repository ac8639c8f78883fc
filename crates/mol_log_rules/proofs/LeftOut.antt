-- Entries that are left out: what stays is a log.
use Rattle.std.proofs.Common.{◌≡◌, ◌≢◌, ◌∙◌, refl, sym, ap, subst, true≢false, ℕ, ◌<◌, ◌≤◌, List, [], ◌∷◌, length, arith}
use Rattle.std.proofs.lemmas.Bool.{and_from}
use Rattle.std.proofs.lemmas.Bool.Decides.{nat_tests}
use Rattle.std.proofs.lemmas.List.Elements.{All-cons, All-nil}
use Rattle.std.proofs.lemmas.List.Kept.{AllPairs-cons}
use Rattle.std.proofs.lemmas.Slice.Eq.{bytes_eq-Decides}
use Rattle.std.specs.Cmp.Lexicographic.{same_text}
use Rattle.std.specs.List.{filter, list_any}
use Rattle.std.specs.Prelude.{Bool, true, false, cond, nat_lt, All, AllPairs}
use Rattle.std.specs.Str.{bytes_eq}
use Rattle.mol_base.proofs.Tags.{both_true}
use Rattle.mol_base.specs.declared.ident.Stamp.{Stamp}
use Rattle.mol_log.specs.LogForms.{Follow, IsLog}
use Rattle.mol_log.specs.declared.entries.entry.Entry.{Entry}
use Rattle.mol_log_rows.specs.lines.Stamps.{last_number, may_follow}
use Rattle.mol_log_rules.specs.Parts.{IsPartOf, ended, kept, left_out}

-- the items that pass are a part
pub filter-part : {X : Type 0} (p : X → Bool) (xs : List X) → IsPartOf (filter p xs) xs
filter-part p [] = ended
filter-part p (x ∷ xs) = by (p x) (filter-part p xs) where
  by : (b : Bool) → IsPartOf (filter p xs) xs → IsPartOf (cond b (x ∷ filter p xs) (filter p xs)) (x ∷ xs)
  by true part = kept part
  by false part = left_out part

length-part : {X : Type 0} {part whole : List X} → IsPartOf part whole → length part ≤ length whole
length-part ended = omega arith
length-part (kept rest) = omega (arith, length-part rest)
length-part (left_out rest) = omega (arith, length-part rest)

-- ---- what may follow

listed : (tags : List (List ℕ)) (earlier : List Stamp) (stamp : Stamp) → may_follow tags earlier stamp ≡ true
    → list_any (bytes_eq stamp.tag) tags ≡ true
listed tags earlier stamp follows = (both_true (list_any (bytes_eq stamp.tag) tags) (nat_lt (last_number stamp.tag earlier) stamp.seq) follows).0

-- its number is greater than the last one of its tag
greater : (tags : List (List ℕ)) (earlier : List Stamp) (stamp : Stamp) → may_follow tags earlier stamp ≡ true
    → last_number stamp.tag earlier < stamp.seq
greater tags earlier stamp follows =
    let test = (both_true (list_any (bytes_eq stamp.tag) tags) (nat_lt (last_number stamp.tag earlier) stamp.seq) follows).1 in
    grind (arith, nat_tests, test)

-- each last number is at most that among the other stamps
abbrev IsNoLater : List Stamp → List Stamp → Type 0
IsNoLater fewer earlier = (tag : List ℕ) → last_number tag fewer ≤ last_number tag earlier

no-later-both : (fewer earlier : List Stamp) (stamp : Stamp) → IsNoLater fewer earlier → IsNoLater (stamp ∷ fewer) (stamp ∷ earlier)
no-later-both fewer earlier stamp less tag = by (bytes_eq tag stamp.tag) where
  by : (b : Bool) → cond b stamp.seq (last_number tag fewer) ≤ cond b stamp.seq (last_number tag earlier)
  by true = omega arith
  by false = less tag

no-later-more : (fewer earlier : List Stamp) (stamp : Stamp) → last_number stamp.tag earlier < stamp.seq → IsNoLater fewer earlier
    → IsNoLater fewer (stamp ∷ earlier)
no-later-more fewer earlier stamp above less tag = by (bytes_eq tag stamp.tag) refl where
  by : (b : Bool) → bytes_eq tag stamp.tag ≡ b → last_number tag fewer ≤ cond b stamp.seq (last_number tag earlier)
  by false same = less tag
  by true same =
      let is : tag ≡ stamp.tag = same_text tag stamp.tag (sym same) in
      let number : last_number tag earlier ≡ last_number stamp.tag earlier = ap (λ t. last_number t earlier) is in
      let most = less tag in
      omega arith

pub follow-fewer : (tags : List (List ℕ)) {some entries : List Entry} → IsPartOf some entries → (fewer earlier : List Stamp)
    → IsNoLater fewer earlier → Follow tags earlier entries → Follow tags fewer some
follow-fewer tags ended fewer earlier less follow = tt {0}
follow-fewer tags (kept {x = entry} rest) fewer earlier less follow = (
  and_from (list_any (bytes_eq entry.stamp.tag) tags) (nat_lt (last_number entry.stamp.tag fewer) entry.stamp.seq)
      (listed tags earlier entry.stamp follow.0)
      (let above = greater tags earlier entry.stamp follow.0 in let most = less entry.stamp.tag in grind (arith, nat_tests)),
  follow-fewer tags rest (entry.stamp ∷ fewer) (entry.stamp ∷ earlier) (no-later-both fewer earlier entry.stamp less) follow.1,
)
follow-fewer tags (left_out {x = entry} rest) fewer earlier less follow =
    follow-fewer tags rest fewer (entry.stamp ∷ earlier)
    (no-later-more fewer earlier entry.stamp (greater tags earlier entry.stamp follow.0) less) follow.1

pub fewer-log : (tags : List (List ℕ)) (some entries : List Entry) → IsPartOf some entries → IsLog tags entries → IsLog tags some
fewer-log tags some entries part is = record {
  tagged = is.tagged;
  few = let less = length-part part in let few = is.few in omega arith;
  follow = follow-fewer tags part [] [] (λ tag. omega arith) is.follow;
}

-- entries that follow go on following where more tags are listed
pub follow-tags : (tags more : List (List ℕ)) (earlier : List Stamp) (entries : List Entry)
    → ((tag : List ℕ) → list_any (bytes_eq tag) tags ≡ true → list_any (bytes_eq tag) more ≡ true)
    → Follow tags earlier entries → Follow more earlier entries
follow-tags tags more earlier [] wider follow = tt {0}
follow-tags tags more earlier (entry ∷ entries) wider follow = (
  and_from (list_any (bytes_eq entry.stamp.tag) more) (nat_lt (last_number entry.stamp.tag earlier) entry.stamp.seq)
      (wider entry.stamp.tag (listed tags earlier entry.stamp follow.0))
      (both_true (list_any (bytes_eq entry.stamp.tag) tags) (nat_lt (last_number entry.stamp.tag earlier) entry.stamp.seq) follow.0).1,
  follow-tags tags more (entry.stamp ∷ earlier) entries wider follow.1,
)

-- ---- stamps

-- a stamp whose number is no greater than the last one of its tag does not follow
none-again : (tags : List (List ℕ)) (earlier : List Stamp) (stamp : Stamp) (entries : List Entry) → stamp.seq ≤ last_number stamp.tag earlier
    → Follow tags earlier entries → All (λ (entry : Entry). stamp ≢ entry.stamp) entries
none-again tags earlier stamp [] low follow = All-nil (λ (entry : Entry). stamp ≢ entry.stamp)
none-again tags earlier stamp (entry ∷ entries) low follow =
    All-cons (λ (entry : Entry). stamp ≢ entry.stamp) entry entries other
    (none-again tags (entry.stamp ∷ earlier) stamp entries (by (bytes_eq stamp.tag entry.stamp.tag) refl) follow.1)
  where
    above : last_number entry.stamp.tag earlier < entry.stamp.seq
    above = greater tags earlier entry.stamp follow.0

    other : stamp ≢ entry.stamp
    other same =
        let low' : entry.stamp.seq ≤ last_number entry.stamp.tag earlier = subst (λ (s : Stamp). s.seq ≤ last_number s.tag earlier) same low in
        omega (arith, above, low')

    by : (b : Bool) → bytes_eq stamp.tag entry.stamp.tag ≡ b → stamp.seq ≤ cond b entry.stamp.seq (last_number stamp.tag earlier)
    by false same = low
    by true same =
        let is : stamp.tag ≡ entry.stamp.tag = same_text stamp.tag entry.stamp.tag (sym same) in
        let number : last_number stamp.tag earlier ≡ last_number entry.stamp.tag earlier = ap (λ t. last_number t earlier) is in
        omega (arith, above, low)

differ-behind : (tags : List (List ℕ)) (earlier : List Stamp) (entries : List Entry) → Follow tags earlier entries
    → AllPairs (λ (first second : Entry). first.stamp ≢ second.stamp) entries
differ-behind tags earlier [] follow = λ i j d before within. absurd (omega (arith, within))
differ-behind tags earlier (entry ∷ entries) follow =
    AllPairs-cons (λ (first second : Entry). first.stamp ≢ second.stamp) entry entries
    (none-again tags (entry.stamp ∷ earlier) entry.stamp entries (own (bytes_eq entry.stamp.tag entry.stamp.tag) refl) follow.1)
    (differ-behind tags (entry.stamp ∷ earlier) entries follow.1)
  where
    own : (b : Bool) → bytes_eq entry.stamp.tag entry.stamp.tag ≡ b → entry.stamp.seq ≤ cond b entry.stamp.seq (last_number entry.stamp.tag earlier)
    own true same = omega arith
    own false same = absurd (true≢false (sym ((bytes_eq-Decides entry.stamp.tag entry.stamp.tag).1 refl) ∙ same))

pub stamps-differ : (tags : List (List ℕ)) (entries : List Entry) → IsLog tags entries
    → AllPairs (λ (first second : Entry). first.stamp ≢ second.stamp) entries
stamps-differ tags entries is = differ-behind tags [] entries is.follow
