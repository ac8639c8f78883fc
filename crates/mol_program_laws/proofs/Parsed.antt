-- Each list of tokens has one tree or one fault.
use Rattle.std.proofs.Common.{◌≡◌, ◌⊎◌, inl, inr, ℕ, ◌-◌, Bool, true, false, List, [], ◌∷◌, ◌++◌, length, take, drop, Option, Some, None, Result, Ok, Err, IfOk, refl, sym, ap, ◌∙◌, subst, append_assoc, if◌then◌else◌, arith, nat_eq}
use Rattle.std.proofs.lemmas.Bool.{eqb-true}
use Rattle.std.proofs.lemmas.List.{append-nil}
use Rattle.std.specs.Global.{Global}
use Rattle.mol_base.specs.Token.{Token}
use Rattle.jav_parse.proofs.Ascending.{ascending, ordered}
use Rattle.jav_parse.proofs.CompleteWhole.{whole_source}
use Rattle.jav_parse.proofs.UnitLanguage.{unit_bad, unit_only, unit_tree}
use Rattle.jav_parse_cursor.specs.Reading.{Outcome}
use Rattle.jav_parse_unit.specs.BadToken.{FaultAt, IsFault, Language, GoesOn, most_height, most_items, units}
use Rattle.jav_parse_unit.specs.UnitRules.{unit}
use Rattle.jav_parse_unit.specs.WholeRules.{AnswersSorted, by_feature, is_whole, limits_for, unread, wrong, wrong_at}
use Rattle.jav_parse_unit.specs.declared.fault.ParseFault.{ParseFault}
use Rattle.jav_parse_unit.specs.declared.fault.ParseFault.TheVariants as fault
use Rattle.jav_parse_unit.specs.declared.feature.Feature.{Feature}
use Rattle.jav_parse_unit.specs.declared.reading.Language.TheVariants as asked
use Rattle.jav_tree.specs.Trees.{IsUnit}
use Rattle.jav_tree.specs.declared.unit.Unit.{Unit as Tree}

-- # A tree or a fault

-- what is found wrong is no want of memory
no_want : (b c d : Bool) (at : ℕ) (feature : Option Feature)
    → (if b then fault.CommentPlace at else (if c then fault.TooDeep at else (if d then fault.TooMany at else by_feature at feature)))
    ≡ fault.OutOfMemory → ⊥
no_want true c d at feature is = absurd cc
no_want false true d at feature is = absurd cc
no_want false false true at feature is = absurd cc
no_want false false false at None is = absurd cc
no_want false false false at (Some feature) is = absurd cc

wrong_found : (alloc : Global) (front rest : List Token) → wrong_at alloc asked.Unit front rest ≡ fault.OutOfMemory → ⊥
wrong_found alloc front [] is = absurd cc
wrong_found alloc front (bad ∷ rest) is = no_want _ _ _ bad.start _ is

abbrev pub Parsed : List Token → Type 0
Parsed ts = ((tree : Tree) × IsUnit most_items most_height tree ts) ⊎ ((fault : ParseFault) × IsFault units ts fault)

module _ (alloc : Global) (ts : List Token) where
  abbrev read : Outcome Tree
  read = unit (limits_for alloc ts most_items true) most_height ts

  some_fault : (left : ℕ) → wrong alloc asked.Unit ts left ≡ fault.OutOfMemory → ⊥
  some_fault left = wrong_found alloc (take (length ts - left) ts) (drop (length ts - left) ts)

  by_fault : (found : ParseFault) → (found ≡ fault.OutOfMemory → ⊥) → (found ≡ fault.OutOfMemory) ⊎ IsFault units ts found → Parsed ts
  by_fault found some (inl none) = absurd (some none)
  by_fault found some (inr is) = inr (found, is)

  by_whole : (whole : Bool) → is_whole read ≡ whole → Parsed ts
  by_whole true is = by read refl is where
    none_left : (rest : List Token) → nat_eq (length rest) 0 ≡ true → rest ≡ []
    none_left [] none = refl
    none_left (t ∷ rest) none = absurd (omega (arith, eqb-true (length (t ∷ rest)) 0 none))

    by : (o : Outcome Tree) → read ≡ o → is_whole o ≡ true → Parsed ts
    by (Ok x) is-read whole =
        let u : Tree = record x.0 { imports = ordered x.0.imports } in
        inl (
          u,
          unit_tree whole_source alloc ts (Ok u)
              (x.0.imports, is-read ∙ ap (λ (rest : List Token). Ok (x.0, rest)) (none_left x.1 whole), ascending x.0.imports),
        )
    by (Err bad) is-read whole = absurd cc
  by_whole false short =
      let found = wrong alloc asked.Unit ts (length (unread read)) in
      by_fault found (some_fault (length (unread read))) (unit_bad whole_source alloc ts (Err found) (inr (short, refl)) found refl)

  pub parsed : Parsed ts
  parsed = by_whole (is_whole read) refl

  pub one_tree : (u v : Tree) → IsUnit most_items most_height u ts → IsUnit most_items most_height v ts → u ≡ v
  one_tree u v of-u of-v =
      let k = whole_source (limits_for alloc ts most_items true) most_height refl (omega arith) u ts of-u (omega arith) in
      by (unit_only whole_source alloc ts v of-v (Ok u) k) where
        by : ◌≡◌ {A = Result Tree ParseFault} (Ok u) (Ok v) ⊎ ◌≡◌ {A = Result Tree ParseFault} (Ok u) (Err fault.OutOfMemory) → u ≡ v
        by (inl same) = cc
        by (inr none) = absurd cc

-- # One fault

-- where two lists part, after what has a property and with the next no longer, is one place
pub meet : {X : Type 0} (P : List X → Type 0) → ((front back : List X) → P (front ++ back) → P front)
    → (front other : List X) (x y : X) (after rest : List X) → front ++ x ∷ after ≡ other ++ y ∷ rest
    → P front → P other → ¬ (P (front ++ x ∷ [])) → ¬ (P (other ++ y ∷ [])) → (front ≡ other) × (x ≡ y)
meet P less [] [] x y after rest same has also fails nor = (refl, let is : x ≡ y = cc in is)
meet P less [] (z ∷ other) x y after rest same has also fails nor =
    let is : z ≡ x = cc in absurd (fails (less (x ∷ []) other (subst (λ z. P (z ∷ other)) is also)))
meet P less (z ∷ front) [] x y after rest same has also fails nor =
    let is : z ≡ y = cc in absurd (nor (less (y ∷ []) front (subst (λ z. P (z ∷ front)) is has)))
meet P less (z ∷ front) (w ∷ other) x y after rest same has also fails nor =
    let is : w ≡ z = cc in
    let tails : front ++ x ∷ after ≡ other ++ y ∷ rest = cc in
    let more = meet (λ xs. P (z ∷ xs)) (λ f b. less (z ∷ f) b) front other x y after rest tails has (subst (λ w. P (w ∷ other)) is also) fails
    (λ h. nor (subst (λ w. P (w ∷ other ++ y ∷ [])) (sym is) h)) in
    (λ i. sym is i ∷ more.0 i, more.1)

module _ (language : Language) where
  goes_on_less : (front back : List Token) → GoesOn language most_items most_height (front ++ back)
      → GoesOn language most_items most_height front
  goes_on_less front back more = (back ++ more.0, subst (language most_items most_height) (append_assoc front back more.0) more.1)

  one_at : (front : List Token) (bad : Token) (f g : ParseFault) → FaultAt language front bad f → FaultAt language front bad g → f ≡ g
  one_at front bad f g (FaultAt.at_comment c) (FaultAt.at_comment c') = refl
  one_at front bad f g (FaultAt.at_comment c) (FaultAt.at_height n h) = absurd (n c)
  one_at front bad f g (FaultAt.at_comment c) (FaultAt.at_number n fails h) = absurd (n c)
  one_at front bad f g (FaultAt.at_comment c) (FaultAt.at_feature n fails is) = absurd (n c)
  one_at front bad f g (FaultAt.at_comment c) (FaultAt.at_other n fails is) = absurd (n c)
  one_at front bad f g (FaultAt.at_height n h) (FaultAt.at_comment c) = absurd (n c)
  one_at front bad f g (FaultAt.at_height n h) (FaultAt.at_height n' h') = refl
  one_at front bad f g (FaultAt.at_height n h) (FaultAt.at_number n' fails h') = absurd (fails h)
  one_at front bad f g (FaultAt.at_height n h) (FaultAt.at_feature n' fails is) = absurd (fails (most_items, h))
  one_at front bad f g (FaultAt.at_height n h) (FaultAt.at_other n' fails is) = absurd (fails (most_items, h))
  one_at front bad f g (FaultAt.at_number n fails h) (FaultAt.at_comment c) = absurd (n c)
  one_at front bad f g (FaultAt.at_number n fails h) (FaultAt.at_height n' h') = absurd (fails h')
  one_at front bad f g (FaultAt.at_number n fails h) (FaultAt.at_number n' fails' h') = refl
  one_at front bad f g (FaultAt.at_number n fails h) (FaultAt.at_feature n' fails' is) = absurd (fails' h)
  one_at front bad f g (FaultAt.at_number n fails h) (FaultAt.at_other n' fails' is) = absurd (fails' h)
  one_at front bad f g (FaultAt.at_feature n fails is) (FaultAt.at_comment c) = absurd (n c)
  one_at front bad f g (FaultAt.at_feature n fails is) (FaultAt.at_height n' h) = absurd (fails (most_items, h))
  one_at front bad f g (FaultAt.at_feature n fails is) (FaultAt.at_number n' fails' h) = absurd (fails h)
  one_at front bad f g (FaultAt.at_feature {feature = a} n fails is) (FaultAt.at_feature {feature = b} n' fails' is') =
      let both : Some a ≡ Some b = sym is ∙ is' in
      let same : a ≡ b = cc in ap (λ (feature : Feature). fault.Refused feature bad.start) same
  one_at front bad f g (FaultAt.at_feature n fails is) (FaultAt.at_other n' fails' is') = absurd cc
  one_at front bad f g (FaultAt.at_other n fails is) (FaultAt.at_comment c) = absurd (n c)
  one_at front bad f g (FaultAt.at_other n fails is) (FaultAt.at_height n' h) = absurd (fails (most_items, h))
  one_at front bad f g (FaultAt.at_other n fails is) (FaultAt.at_number n' fails' h) = absurd (fails h)
  one_at front bad f g (FaultAt.at_other n fails is) (FaultAt.at_feature n' fails' is') = absurd cc
  one_at front bad f g (FaultAt.at_other n fails is) (FaultAt.at_other n' fails' is') = refl

  -- tokens of which one is bad do not go on
  stuck : (ts front rest : List Token) (bad : Token) → ts ≡ front ++ bad ∷ rest
      → ¬ (GoesOn language most_items most_height (front ++ bad ∷ [])) → ¬ (GoesOn language most_items most_height ts)
  stuck ts front rest bad split fails more =
      fails (goes_on_less (front ++ bad ∷ []) rest
      (subst (GoesOn language most_items most_height) (split ∙ sym (append_assoc front (bad ∷ []) rest)) more))

  pub one_wrong : (ts : List Token) (f g : ParseFault) → IsFault language ts f → IsFault language ts g → f ≡ g
  one_wrong ts f g (inl a) (inl b) =
      let same = meet (GoesOn language most_items most_height) goes_on_less a.front b.front a.bad b.bad a.rest b.rest
      (sym a.split ∙ b.split) a.goes_on b.goes_on a.goes_on_no_more b.goes_on_no_more in
      one_at b.front b.bad f g (subst (λ (x : List Token × Token). FaultAt language x.0 x.1 f) (λ i. (same.0 i, same.1 i)) a.fault_there) b.fault_there
  one_wrong ts f g (inl a) (inr b) = absurd (stuck ts a.front a.rest a.bad a.split a.goes_on_no_more b.goes_on)
  one_wrong ts f g (inr a) (inl b) = absurd (stuck ts b.front b.rest b.bad b.split b.goes_on_no_more a.goes_on)
  one_wrong ts f g (inr a) (inr b) = a.fault_there ∙ sym b.fault_there

  pub none_wrong : (ts : List Token) (f : ParseFault) → language most_items most_height ts → IsFault language ts f → ⊥
  none_wrong ts f tree (inl a) =
      stuck ts a.front a.rest a.bad a.split a.goes_on_no_more ([], subst (language most_items most_height) (sym (append-nil ts)) tree)
  none_wrong ts f tree (inr a) = a.no_tree tree
