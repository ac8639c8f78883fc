-- Where no tree is read, reading stops at the first bad token, and the fault is the one that is said.
use Rattle.std.proofs.Common.{◌≡◌, inl, inr, ℕ, ◌+◌, ◌-◌, ◌<◌, ◌≤◌, nat_eq, Bool, true, false, if◌then◌else◌, List, [], ◌∷◌, ◌++◌, length, take, drop, Option, Some, None, Ok, Err, refl, sym, ap, ◌∙◌, subst, append_assoc, arith}
use Rattle.std.proofs.lemmas.Bool.Decides.{nat_tests}
use Rattle.std.proofs.lemmas.List.{append-nil, append_cancel_right, length-append}
use Rattle.std.proofs.Math.Seq.{take-append_seam, drop-append_seam}
use Rattle.std.specs.Global.{Global}
use Rattle.mol_base.specs.Token.{Token}
use Rattle.jav_tree.specs.Tokens.{IsComment}
use Rattle.jav_parse_unit.specs.BadToken.{Language, most_items, most_height, GoesOn, GoesOnAtAll, FaultAt, end_of, IsFault}
use Rattle.jav_parse_unit.specs.declared.fault.ParseFault.TheVariants as fault
use Rattle.jav_parse_unit.specs.declared.feature.Feature.{Feature}
use Rattle.jav_parse_cursor.specs.declared.limits.Limits.{Limits}
use Rattle.jav_parse_unit.specs.declared.reading.Language.{Language as Asked}
use Rattle.jav_parse_cursor.specs.declared.sort.Sort.TheVariants.{Comment}
use Rattle.jav_parse_unit.specs.Features.{feature_at}
use Rattle.jav_parse_cursor.specs.Reading.{Outcome, Parser}
use Rattle.jav_parse_cursor.specs.Sorts.{sort_of, same_sort}
use Rattle.jav_parse_unit.specs.WholeRules.{limits_for, unread, is_empty, is_whole, unread_as, enough, takes_all, by_feature, fault_of, wrong_at, wrong}
use Rattle.jav_parse.proofs.Agree.{Agree, Alike, Any, Enough, Turns}
use Rattle.jav_parse.proofs.EnoughTypes.{LikeLimits}
use Rattle.jav_parse.proofs.Lookahead.{SameHead, Keeps, Local}
use Rattle.jav_parse.proofs.TokenSorts.{comment_is}
use Rattle.jav_parse.proofs.Written.{is_same}

-- up to these tokens some tree of the language begins so
pub record Viable (language : Language) (most height : ℕ) (ts rest : List Token) : Type 0 where
  pub front : List Token
  pub split : ts ≡ front ++ rest
  pub goes_on : GoesOn language most height front

-- What is known of the rule that reads a language.
pub record ReadsLanguage {A : Type 0} (language : Language) (asked : Asked) (rule : Limits → ℕ → Parser A) : Type 0 where
  -- what is asked for is read by the rule
  pub asked_is : (l : Limits) (d : ℕ) (ts : List Token) → unread_as asked l d ts ≡ unread (rule l d ts)
  -- it depends on what it read and the next token alone
  pub local : (l : Limits) (d : ℕ) → Local (rule l d)
  -- limits that are large enough are all alike
  pub agree : {n : ℕ} (l k : Limits) (d e : ℕ) → LikeLimits n l k → Enough 5 n d e → Agree Any (λ _. 0) n 0 (rule l d) (rule k e)
  -- up to where it stops some tree begins so
  pub viable : (l : Limits) (d : ℕ) → l.builds ≡ true → 0 < l.most → 0 < d → (ts : List Token) → Viable language l.most d ts (unread (rule l d ts))
  -- what is in the language is read whole
  pub whole : (l : Limits) (d : ℕ) → l.builds ≡ true → 0 < l.most → (ts : List Token) → language l.most d ts → length ts < l.turns → is_whole (rule l d ts) ≡ true
  -- a tree within some limits is within larger ones
  pub higher : {most d e : ℕ} {ts : List Token} → d ≤ e → language most d ts → language most e ts
  pub wider : {most more d : ℕ} {ts : List Token} → most ≤ more → language most d ts → language more d ts

-- ---- outcomes

same_unread : {A : Type 0} (m : ℕ) (o u : Outcome A) → Alike Any (λ _. 0) m o u → unread o ≡ unread u
same_unread m (Ok x) (Ok y) a = a.1
same_unread m (Ok x) (Err b) a = absurd a
same_unread m (Err x) (Ok y) a = absurd a
same_unread m (Err x) (Err b) a = a

none_left : (ts : List Token) → is_empty ts ≡ true → ts ≡ []
none_left [] h = refl
none_left (t ∷ ts) h = absurd (let z : nat_eq (length (t ∷ ts)) 0 ≡ false = grind (arith, nat_tests) in cc)

some_left : (ts : List Token) → is_empty ts ≡ false → 0 < length ts
some_left [] h = absurd (cc)
some_left (t ∷ ts) h = omega arith

whole_unread : {A : Type 0} (o : Outcome A) → is_whole o ≡ true → unread o ≡ []
whole_unread (Ok x) h = none_left x.1 h
whole_unread (Err bad) h = absurd (cc)

-- what is left goes on alike
Stays : {A : Type 0} → Parser A → List Token → List Token → Type 0
Stays p ts rest = (front : List Token) × (ts ≡ front ++ rest) × ((r : List Token) → SameHead rest r → unread (p (front ++ r)) ≡ r)

stays_by : {A : Type 0} (p : Parser A) (ts : List Token) (o : Outcome A) → Keeps p ts o → Stays p ts (unread o)
unfolding Stays
stays_by p ts (Ok x) k = (k.0, k.1, λ r s. ap unread (k.2 r s))
stays_by p ts (Err bad) k = (k.0, k.1, λ r s. ap unread (k.2 r s))

nil_no : {t : Token} {ts : List Token} → [] ≡ t ∷ ts → ⊥
nil_no h = cc

-- ---- which comment a token is

comment_sort : (t : Token) → IsComment t → same_sort (sort_of t) Comment ≡ true
unfolding same_sort sort_of
comment_sort t c = rw (c.comment) refl

no_comment : (t : Token) → same_sort (sort_of t) Comment ≡ false → IsComment t → ⊥
no_comment t h c = let k = comment_sort t c in cc

true_no : true ≡ false → ⊥
true_no h = cc

-- what is wrong after the tokens that were read
wrong_is : (alloc : Global) (asked : Asked) (front rest : List Token) → wrong alloc asked (front ++ rest) (length rest) ≡ wrong_at alloc asked front rest
wrong_is alloc asked front rest =
    let long = length-append front rest in
    let n : length (front ++ rest) - length rest ≡ length front = omega arith in
    ap (λ k. wrong_at alloc asked (take k (front ++ rest)) (drop k (front ++ rest))) n
    ∙ ap (λ f. wrong_at alloc asked f (drop (length front) (front ++ rest))) (take-append_seam front rest)
    ∙ ap (wrong_at alloc asked front) (drop-append_seam front rest)

module _ {A : Type 0} (language : Language) (asked : Asked) (rule : Limits → ℕ → Parser A) (laws : ReadsLanguage language asked rule) where
  rest_of : Limits → ℕ → List Token → List Token
  rest_of l d ts = unread (rule l d ts)

  alike : (l k : Limits) (d e : ℕ) (ts : List Token) → LikeLimits (length ts) l k → Enough 5 (length ts) d e → unread (rule l d ts) ≡ unread (rule k e ts)
  alike l k d e ts a b = same_unread _ (rule l d ts) (rule k e ts) ((laws.agree l k d e a b).at ts (omega arith))

  stays : (l : Limits) (d : ℕ) (ts : List Token) → Stays (rule l d) ts (unread (rule l d ts))
  stays l d ts = stays_by (rule l d) ts (rule l d ts) ((laws.local l d).at ts)

  -- where it stops at t, and reads as many tokens as some tree that goes on past t has, there is none
  stops_at : (l : Limits) (d : ℕ) → l.builds ≡ true → 0 < l.most → (front rest : List Token) (t : Token) → unread (rule l d (front ++ t ∷ rest)) ≡ t ∷ rest
      → (go : GoesOn language l.most d (front ++ t ∷ [])) → length ((front ++ t ∷ []) ++ go.0) < l.turns → ⊥
  unfolding Stays
  stops_at l d builds some front rest t e go few =
      let k = subst (Stays (rule l d) (front ++ t ∷ rest)) e (stays l d (front ++ t ∷ rest)) in
      let same : front ≡ k.0 = append_cancel_right front k.0 (t ∷ rest) k.1 in
      let left : unread (rule l d (front ++ t ∷ go.0)) ≡ t ∷ go.0 = subst (λ r. unread (rule l d (r ++ t ∷ go.0)) ≡ t ∷ go.0) (sym same) (k.2 (t ∷ go.0) refl) in
      let whole = whole_unread (rule l d ((front ++ t ∷ []) ++ go.0)) (laws.whole l d builds some ((front ++ t ∷ []) ++ go.0) go.1 few) in
      nil_no (sym whole ∙ ap (λ r. unread (rule l d r)) (append_assoc front (t ∷ []) go.0) ∙ left)

  -- no tree goes on past t within limits that are as good for these tokens
  stops : (l : Limits) (d : ℕ) (front rest : List Token) (t : Token) → length (front ++ t ∷ rest) < l.turns → unread (rule l d (front ++ t ∷ rest)) ≡ t ∷ rest
      → (most e : ℕ) → 0 < most → Turns (length (front ++ t ∷ rest)) 0 l.most most → Enough 5 (length (front ++ t ∷ rest)) d e → GoesOn language most e (front ++ t ∷ []) → ⊥
  stops l d front rest t few h most e some items high go =
      let k : Limits = record { alloc = l.alloc; most = most; turns = l.turns + (length ((front ++ t ∷ []) ++ go.0) + 1); builds = true } in
      let same = alike l k d e (front ++ t ∷ rest) (record { turns = few; turns' = omega arith; most = items }) high in
      stops_at k e refl some front rest t (sym same ∙ h) go (omega arith)

  goes_back : (most d : ℕ) (front back : List Token) → GoesOn language most d (front ++ back) → GoesOn language most d front
  goes_back most d front back go = (back ++ go.0, subst (language most d) (append_assoc front back go.0) go.1)

  -- what takes all tokens within such limits shows that some tree begins so
  takes_yes : (alloc : Global) (most : ℕ) (both : List Token) → 0 < most → takes_all alloc asked most (enough both) both ≡ true → GoesOn language most (enough both) both
  takes_yes alloc most both some h =
      let l = limits_for alloc both most false in
      let k = limits_for alloc both most true in
      let none : unread (rule k (enough both) both) ≡ [] =
      sym (alike l k (enough both) (enough both) both (record { turns = omega arith; turns' = omega arith; most = Turns.same refl }) (Enough.same refl))
      ∙ sym (laws.asked_is l (enough both) both) ∙ none_left (unread_as asked l (enough both) both) h in
      let v = laws.viable k (enough both) refl some (omega arith) both in
      let all : both ≡ v.front = v.split ∙ ap (λ r. v.front ++ r) none ∙ append-nil v.front in
      subst (GoesOn language most (enough both)) (sym all) v.goes_on

  takes_no_by : (alloc : Global) (most : ℕ) (both rest : List Token) → unread (rule (limits_for alloc both most false) (enough both) both) ≡ rest → 0 < length rest
      → (more e : ℕ) → 0 < more → Turns (length both) 0 most more → GoesOn language more e both → ⊥
  unfolding Stays
  takes_no_by alloc most both [] h some more e pos items go = absurd (omega arith)
  takes_no_by alloc most both (t ∷ rest) h some more e pos items go =
      let l = limits_for alloc both most false in
      let k = subst (Stays (rule l (enough both)) both) h (stays l (enough both) both) in
      let split : both ≡ (k.0 ++ t ∷ []) ++ rest = k.1 ∙ sym (append_assoc k.0 (t ∷ []) rest) in
      let back = goes_back more (enough both + e) (k.0 ++ t ∷ []) rest (subst (GoesOn language more (enough both + e)) split (go.0, laws.higher (omega arith) go.1)) in
      let long : length (k.0 ++ t ∷ rest) ≡ length both = sym (ap length k.1) in
      stops l (enough both) k.0 rest t (omega arith) (subst (λ r. unread (rule l (enough both) r) ≡ t ∷ rest) k.1 h) more (enough both + e) pos
      (subst (λ n. Turns n 0 most more) (sym long) items) (Enough.large (omega arith) (omega arith)) back

  -- what doesn't shows that none does, however high it is
  takes_no : (alloc : Global) (most : ℕ) (both : List Token) → takes_all alloc asked most (enough both) both ≡ false → (more e : ℕ) → 0 < more → Turns (length both) 0 most more
      → GoesOn language more e both → ⊥
  takes_no alloc most both h more e pos items go =
      let l = limits_for alloc both most false in
      let some = some_left (unread_as asked l (enough both) both) h in
      takes_no_by alloc most both (unread (rule l (enough both) both)) refl (subst (λ r. 0 < length r) (laws.asked_is l (enough both) both) some) more e pos items go

  many_no : (alloc : Global) (both : List Token) → takes_all alloc asked (enough both) (enough both) both ≡ false → GoesOnAtAll language both → ⊥
  many_no alloc both h go =
      takes_no alloc (enough both) both h (enough both + go.0) go.1.0 (omega arith) (Turns.many (omega arith) (omega arith)) (go.1.1.0, laws.wider (omega arith) go.1.1.1)

  -- the fault of a bad token
  fault_by : (alloc : Global) (front : List Token) (bad : Token) (a b c : Bool) (feature : Option Feature) → same_sort (sort_of bad) Comment ≡ a
      → takes_all alloc asked most_items (enough (front ++ bad ∷ [])) (front ++ bad ∷ []) ≡ b → takes_all alloc asked (enough (front ++ bad ∷ [])) (enough (front ++ bad ∷ [])) (front ++ bad ∷ []) ≡ c
      → feature_at front bad ≡ feature
      → FaultAt language front bad (if a then fault.CommentPlace bad.start else (if b then fault.TooDeep bad.start else (if c then fault.TooMany bad.start else by_feature bad.start feature)))
  fault_by alloc front bad true b c feature p q r s = FaultAt.at_comment (comment_is bad (is_same (sort_of bad) Comment p))
  fault_by alloc front bad false true c feature p q r s = FaultAt.at_height (no_comment bad p) (enough (front ++ bad ∷ []), takes_yes alloc most_items (front ++ bad ∷ []) (omega arith) q)
  fault_by alloc front bad false false true feature p q r s =
      let both = front ++ bad ∷ [] in
      FaultAt.at_number (no_comment bad p)
      (λ go. takes_no alloc most_items both q most_items go.0 (omega arith) (Turns.same refl) go.1)
      (enough both, (enough both, takes_yes alloc (enough both) both (omega arith) r))
  fault_by alloc front bad false false false None p q r s = FaultAt.at_other (no_comment bad p) (many_no alloc (front ++ bad ∷ []) r) s
  fault_by alloc front bad false false false (Some feature) p q r s = FaultAt.at_feature (no_comment bad p) (many_no alloc (front ++ bad ∷ []) r) s

  fault_is : (alloc : Global) (front : List Token) (bad : Token) → FaultAt language front bad (fault_of alloc asked front bad (front ++ bad ∷ []))
  fault_is alloc front bad = fault_by alloc front bad _ _ _ _ refl refl refl refl

  -- the clause `bad`
  bad_by : (alloc : Global) (ts rest : List Token) → unread (rule (limits_for alloc ts most_items true) most_height ts) ≡ rest
      → is_whole (rule (limits_for alloc ts most_items true) most_height ts) ≡ false → IsFault language ts (wrong alloc asked ts (length rest))
  bad_by alloc ts [] h short =
      let l = limits_for alloc ts most_items true in
      let v = laws.viable l most_height refl (omega arith) (omega arith) ts in
      let all : ts ≡ v.front = v.split ∙ ap (λ r. v.front ++ r) h ∙ append-nil v.front in
      inr (record {
        goes_on = subst (GoesOn language most_items most_height) (sym all) v.goes_on;
        no_tree = λ tree. let yes = laws.whole l most_height refl (omega arith) ts tree (omega arith) in true_no (sym yes ∙ short);
        fault_there = subst (λ r. wrong alloc asked r 0 ≡ fault.Expected (end_of ts)) (append-nil ts) (wrong_is alloc asked ts []);
      })
  bad_by alloc ts (t ∷ rest) h short =
      let l = limits_for alloc ts most_items true in
      let v = laws.viable l most_height refl (omega arith) (omega arith) ts in
      let split : ts ≡ v.front ++ t ∷ rest = v.split ∙ ap (λ r. v.front ++ r) h in
      let long : length ts ≡ length (v.front ++ t ∷ rest) = ap length split in
      inl (record {
        front = v.front;
        bad = t;
        rest = rest;
        split = split;
        goes_on = v.goes_on;
        goes_on_no_more = stops l most_height v.front rest t (omega arith) (subst (λ r. unread (rule l most_height r) ≡ t ∷ rest) split h) most_items most_height (omega arith) (Turns.same refl) (Enough.same refl);
        fault_there = subst (FaultAt language v.front t) (sym (wrong_is alloc asked v.front (t ∷ rest)) ∙ ap (λ r. wrong alloc asked r (length (t ∷ rest))) (sym split)) (fault_is alloc v.front t);
      })

  pub bad : (alloc : Global) (ts : List Token) → is_whole (rule (limits_for alloc ts most_items true) most_height ts) ≡ false
      → IsFault language ts (wrong alloc asked ts (length (unread (rule (limits_for alloc ts most_items true) most_height ts))))
  bad alloc ts short = bad_by alloc ts _ refl short
