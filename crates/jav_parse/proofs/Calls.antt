-- What a public call ensures, from what the rule of its language reads.
use Rattle.std.proofs.Common.{◌≡◌, ◌⊎◌, inl, inr, ℕ, ◌<◌, ◌≤◌, true, false, List, [], ◌++◌, length, Result, Ok, Err, IfOk, refl, sym, ap, ◌∙◌, subst, arith}
use Rattle.std.proofs.lemmas.List.{append-nil}
use Rattle.std.specs.Global.{Global}
use Rattle.mol_base.specs.Token.{Token}
use Rattle.jav_parse_unit.specs.BadToken.{Language, most_items, most_height, IsFault}
use Rattle.jav_parse_unit.specs.declared.fault.ParseFault.{ParseFault}
use Rattle.jav_parse_unit.specs.declared.fault.ParseFault.TheVariants as fault
use Rattle.jav_parse_cursor.specs.declared.limits.Limits.{Limits}
use Rattle.jav_parse_unit.specs.declared.reading.Language.{Language as Asked}
use Rattle.jav_parse_cursor.specs.Reading.{Outcome, Parser}
use Rattle.jav_parse_unit.specs.WholeRules.{limits_for, unread, unread_as, is_whole, Answers}
use Rattle.jav_parse.proofs.Agree.{Agree, Any, Enough}
use Rattle.jav_parse.proofs.EnoughTypes.{LikeLimits}
use Rattle.jav_parse.proofs.Lookahead.{Local}
use Rattle.jav_parse.proofs.FirstBad.{Viable, ReadsLanguage, bad}
use Rattle.jav_parse.proofs.Meets.{Meets, Spelling, Reads}

-- up to where a rule stops some tree begins so
pub viable_by : {A : Type 0} (language : Language) (S : Spelling A) (most d : ℕ) → ((x : A) (us : List Token) → S x us → language most d us)
    → (ts : List Token) (o : Outcome A) → Meets S ts o → Viable language most d ts (unread o)
viable_by language S most d of ts (Ok x) m = record { front = m.0; split = m.1; goes_on = ([], subst (language most d) (sym (append-nil m.0)) (of x.0 m.0 m.2)) }
viable_by language S most d of ts (Err bad) m = record { front = m.0; split = m.1; goes_on = (m.2, of m.3 (m.0 ++ m.2) m.4) }

-- what is read whole is spelled so
pub read_whole : {A : Type 0} (S : Spelling A) (ts : List Token) (o : Outcome A) → Meets S ts o → (a : A) → o ≡ Ok (a, []) → S a ts
read_whole S ts o m a e = let k = subst (Meets S ts) e m in subst (S a) (sym (k.1 ∙ append-nil k.0)) k.2

err_is : {A : Type 0} {f g : ParseFault} → ◌≡◌ {A = Result A ParseFault} (Err f) (Err g) → f ≡ g
err_is h = cc

pub ok_err : {A : Type 0} {a : A} {f : ParseFault} → ◌≡◌ {A = Result A ParseFault} (Ok a) (Err f) → ⊥
ok_err h = cc

-- what was read; a where nothing was
pub read_or : {A : Type 0} → A → Outcome A → A
read_or a (Ok x) = x.0
read_or a (Err bad) = a

pub ok_is : {A : Type 0} {a b : A} → ◌≡◌ {A = Outcome A} (Ok (a, [])) (Ok (b, [])) → a ≡ b
unfolding read_or
ok_is {a = a} h = ap (read_or a) h

true_no : true ≡ false → ⊥
true_no h = cc

module _ {A : Type 0} (alloc : Global) (asked : Asked) (ts : List Token) (o : Outcome A) where
  -- the clause `tree`
  pub tree_answer : (S : Spelling A) → Meets S ts o → (r : Result A ParseFault) → Answers alloc asked ts o r → IfOk r (λ a. S a ts)
  tree_answer S m (Ok a) h = read_whole S ts o m a h
  tree_answer S m (Err f) h = tt

  pub only_err : (a : A) → o ≡ Ok (a, []) → (f : ParseFault) → Answers alloc asked ts o (Err f) → ◌≡◌ {A = Result A ParseFault} (Err f) (Err fault.OutOfMemory)
  only_err a e f (inl h) = ap Err h
  only_err a e f (inr h) = absurd (true_no (sym (ap is_whole e) ∙ h.0))

  -- the clause `only`
  pub only_answer : (a : A) → o ≡ Ok (a, []) → (r : Result A ParseFault) → Answers alloc asked ts o r → (r ≡ Ok a) ⊎ (r ≡ Err fault.OutOfMemory)
  only_answer a e (Ok b) h = inl (ap Ok (ok_is (sym h ∙ e)))
  only_answer a e (Err f) h = inr (only_err a e f h)

-- the clause `bad`
pub bad_answer : {A : Type 0} (language : Language) (asked : Asked) (rule : Limits → ℕ → Parser A) → ReadsLanguage language asked rule → (alloc : Global) (ts : List Token) (r : Result A ParseFault)
    → Answers alloc asked ts (rule (limits_for alloc ts most_items true) most_height ts) r → (f : ParseFault) → r ≡ Err f → (f ≡ fault.OutOfMemory) ⊎ IsFault language ts f
bad_answer language asked rule laws alloc ts (Ok a) h f e = absurd (ok_err e)
bad_answer language asked rule laws alloc ts (Err g) (inl h) f e = inl (sym (err_is e) ∙ h)
bad_answer language asked rule laws alloc ts (Err g) (inr h) f e = inr (subst (IsFault language ts) (sym h.1 ∙ err_is e) (bad language asked rule laws alloc ts h.0))

-- ---- a rule that reads the trees themselves

-- What is known of the rule that reads trees of some kind.
pub record ReadsTrees {A : Type 0} (IsTree : ℕ → ℕ → A → List Token → Type 0) (asked : Asked) (rule : Limits → ℕ → Parser A) : Type 0 where
  pub asked_is : (l : Limits) (d : ℕ) (ts : List Token) → unread_as asked l d ts ≡ unread (rule l d ts)
  pub local : (l : Limits) (d : ℕ) → Local (rule l d)
  pub agree : {n : ℕ} (l k : Limits) (d e : ℕ) → LikeLimits n l k → Enough 5 n d e → Agree Any (λ _. 0) n 0 (rule l d) (rule k e)
  pub sound : (l : Limits) (d : ℕ) → l.builds ≡ true → 0 < l.most → 0 < d → Reads (IsTree l.most d) (rule l d)
  pub whole : (l : Limits) (d : ℕ) → l.builds ≡ true → 0 < l.most → (a : A) (ts : List Token) → IsTree l.most d a ts → length ts < l.turns → rule l d ts ≡ Ok (a, [])
  pub higher : {most d e : ℕ} {a : A} {ts : List Token} → d ≤ e → IsTree most d a ts → IsTree most e a ts
  pub wider : {most more d : ℕ} {a : A} {ts : List Token} → most ≤ more → IsTree most d a ts → IsTree more d a ts

module _ {A : Type 0} (IsTree : ℕ → ℕ → A → List Token → Type 0) (asked : Asked) (rule : Limits → ℕ → Parser A) (laws : ReadsTrees IsTree asked rule) where
  -- the tokens of such a tree
  abbrev pub trees : Language
  trees most d ts = (a : A) × IsTree most d a ts

  reads_language : ReadsLanguage trees asked rule
  reads_language = record {
    asked_is = laws.asked_is;
    local = laws.local;
    agree = laws.agree;
    viable = λ l d b some high ts. viable_by trees (IsTree l.most d) l.most d (λ a us t. (a, t)) ts (rule l d ts) ((laws.sound l d b some high).at ts tt);
    whole = λ l d b some ts t few. ap is_whole (laws.whole l d b some t.0 ts t.1 few);
    higher = λ le t. (t.0, laws.higher le t.1);
    wider = λ le t. (t.0, laws.wider le t.1);
  }

  module _ (alloc : Global) (ts : List Token) (r : Result A ParseFault) (answers : Answers alloc asked ts (rule (limits_for alloc ts most_items true) most_height ts) r) where
    -- what a call answers is a tree of its tokens
    pub tree_clause : IfOk r (λ a. IsTree most_items most_height a ts)
    tree_clause = tree_answer alloc asked ts (rule (limits_for alloc ts most_items true) most_height ts) (IsTree most_items most_height)
        ((laws.sound (limits_for alloc ts most_items true) most_height refl (omega arith) (omega arith)).at ts tt) r answers

    -- a tree of the tokens is the answer, unless memory runs out
    pub only_clause : (a : A) → IsTree most_items most_height a ts → (r ≡ Ok a) ⊎ (r ≡ Err fault.OutOfMemory)
    only_clause a t = only_answer alloc asked ts (rule (limits_for alloc ts most_items true) most_height ts) a
        (laws.whole (limits_for alloc ts most_items true) most_height refl (omega arith) a ts t (omega arith)) r answers

    -- any other fault is that of the first bad token, or of tokens that end too early
    pub bad_clause : (f : ParseFault) → r ≡ Err f → (f ≡ fault.OutOfMemory) ⊎ IsFault trees ts f
    bad_clause f e = bad_answer trees asked rule reads_language alloc ts r answers f e
