-- Classes at the top: the last one on the way up, or those of a circle.
use Rattle.std.proofs.Common.{◌≡◌, ◌⊎◌, inl, inr, List, [], ◌∷◌, ◌++◌, Option, Some, None, Contains, refl, sym, ◌∙◌, ap, subst}
use Rattle.jav_names.proofs.Lists.{stands_first, stands_later, stands_where, stands_nowhere}
use Rattle.mol_base.specs.declared.ident.Id.{Id}
use Rattle.mol_table_rules.proofs.Counts.{none-some, some-same}
use Rattle.mol_table_rules.specs.Heights.{upward}
use Rattle.mol_table_rules.specs.Program.{Program}
use Rattle.mol_table_rules.specs.Heights.{Leads}
use Rattle.mol_scope_classes.specs.hierarchy.Reaching.{Reaches, AreTop}
use Rattle.mol_scope_classes.proofs.hierarchy_lemmas.Following.{itself, one-step, further}

module _ (program : Program) where
  -- ---- parts of a line

  pub leads-front : (start : Option Id) (front back : List Id) (at : Option Id) → Leads program start (front ++ back) at
      → (middle : Option Id) × Leads program start front middle × Leads program middle back at
  leads-front start [] back at leads = (start, refl, leads)
  leads-front start (class ∷ front) back at leads =
      let rest = leads-front (upward program start) front back at leads.1 in
      (rest.0, (leads.0, rest.1), rest.2)

  pub leads-push : (start : Option Id) (front : List Id) (class : Id) → Leads program start front (Some class)
      → Leads program start (front ++ class ∷ []) (upward program (Some class))
  leads-push start [] class is = (is, ap (upward program) is)
  leads-push start (first ∷ front) class leads = (leads.0, leads-push (upward program start) front class leads.1)

  -- ---- what is reached on a line

  -- the next class of the line, or what it leads to
  next-on : (start : Option Id) (classes : List Id) (at : Option Id) → Leads program start classes at → (below above : Id)
      → Contains classes below → upward program (Some below) ≡ Some above → Contains classes above ⊎ (at ≡ Some above)
  next-on start [] at leads below above stands is = absurd (stands_nowhere below stands)
  next-on start (class ∷ classes) at leads below above stands is =
      by (stands_where class below classes stands) (λ later. next-on (upward program start) classes at leads.1 below above later is) where
        begins : (rest : List Id) → Leads program (upward program start) rest at → upward program start ≡ Some above
            → Contains (class ∷ rest) above ⊎ (at ≡ Some above)
        begins [] same here = inr (sym same ∙ here)
        begins (next ∷ rest) on here =
            inl (subst (Contains (class ∷ next ∷ rest)) (some-same next above (sym on.0 ∙ here))
            (stands_later class next (next ∷ rest) (stands_first next rest)))

        by : (class ≡ below) ⊎ Contains classes below → (Contains classes below → Contains classes above ⊎ (at ≡ Some above))
            → Contains (class ∷ classes) above ⊎ (at ≡ Some above)
        by (inl same) more = begins classes leads.1 (ap (upward program) (leads.0 ∙ ap Some same) ∙ is)
        by (inr later) more = at_more (more later) where
          at_more : Contains classes above ⊎ (at ≡ Some above) → Contains (class ∷ classes) above ⊎ (at ≡ Some above)
          at_more (inl there) = inl (stands_later class above classes there)
          at_more (inr ends) = inr ends

  -- from the first class each is reached
  from-first : (start : Option Id) (classes : List Id) (at : Option Id) → Leads program start classes at → (first above : Id)
      → start ≡ Some first → Contains classes above → Reaches program first above
  from-first start [] at leads first above is stands = absurd (stands_nowhere above stands)
  from-first start (class ∷ classes) at leads first above is stands =
      by (stands_where class above classes stands) (upward program start) refl
      (λ next up. from-first (upward program start) classes at leads.1 next above up) where
        same_first : class ≡ first
        same_first = some-same class first (sym leads.0 ∙ is)

        ended : (rest : List Id) → Leads program None rest at → Contains rest above → Reaches program first above
        ended [] on stands = absurd (stands_nowhere above stands)
        ended (next ∷ rest) on stands = absurd (none-some next on.0)

        by : (class ≡ above) ⊎ Contains classes above → (o : Option Id) → upward program start ≡ o
            → ((next : Id) → upward program start ≡ Some next → Contains classes above → Reaches program next above)
            → Reaches program first above
        by (inl same) o up more = subst (Reaches program first) (sym same_first ∙ same) (itself program first)
        by (inr later) None up more = ended classes (subst (λ o. Leads program o classes at) up leads.1) later
        by (inr later) (Some next) up more =
            further program first next above (one-step program first next (ap (upward program) (sym is) ∙ up)) (more next up later)

  -- and what the line leads to
  through : (start : Option Id) (classes : List Id) (end first : Id) → Leads program start classes (Some end) → start ≡ Some first
      → Reaches program first end
  through start [] end first leads is = subst (Reaches program first) (some-same first end (sym is ∙ leads)) (itself program first)
  through start (class ∷ classes) end first leads is =
      by (upward program start) refl (λ next. through (upward program start) classes end next leads.1) where
        ended : (rest : List Id) → Leads program None rest (Some end) → Reaches program first end
        ended [] on = absurd (none-some end on)
        ended (next ∷ rest) on = absurd (none-some next on.0)

        by : (o : Option Id) → upward program start ≡ o → ((next : Id) → upward program start ≡ Some next → Reaches program next end)
            → Reaches program first end
        by None up more = ended classes (subst (λ o. Leads program o classes (Some end)) up leads.1)
        by (Some next) up more = further program first next end (one-step program first next (ap (upward program) (sym is) ∙ up))
            (more next up)

  to-end : (start : Option Id) (classes : List Id) (end below : Id) → Leads program start classes (Some end) → Contains classes below
      → Reaches program below end
  to-end start [] end below leads stands = absurd (stands_nowhere below stands)
  to-end start (class ∷ classes) end below leads stands =
      by (stands_where class below classes stands) (to-end (upward program start) classes end below leads.1) where
        by : (class ≡ below) ⊎ Contains classes below → (Contains classes below → Reaches program below end) → Reaches program below end
        by (inl same) more = through start (class ∷ classes) end below leads (leads.0 ∙ ap Some same)
        by (inr later) more = more later

  -- ---- the top

  pub last-top : (class : Id) → upward program (Some class) ≡ None → AreTop program class (class ∷ [])
  last-top class ends = record {
    stands = stands_first class [];
    closed = λ below above stands up. absurd (none-some above (sym (ap (λ c. upward program (Some c)) (only below stands) ∙ ends) ∙ up));
    joined = λ below above low high. subst (Reaches program below) (only below low ∙ sym (only above high)) (itself program below);
  } where
    only : (x : Id) → Contains (class ∷ []) x → x ≡ class
    only x stands = by (stands_where class x [] stands) where
      by : (class ≡ x) ⊎ Contains [] x → x ≡ class
      by (inl same) = sym same
      by (inr later) = absurd (stands_nowhere x later)

  pub circle-top : (class : Id) (back : List Id) → Leads program (Some class) (class ∷ back) (Some class)
      → AreTop program class (class ∷ back)
  circle-top class back leads = record {
    stands = stands_first class back;
    closed = λ below above stands up. by above (next-on (Some class) (class ∷ back) (Some class) leads below above stands up);
    joined = λ below above low high. further program below class above (to-end (Some class) (class ∷ back) class below leads low)
        (from-first (Some class) (class ∷ back) (Some class) leads class above refl high);
  } where
    by : (above : Id) → Contains (class ∷ back) above ⊎ (Some class ≡ Some above) → Contains (class ∷ back) above
    by above (inl stands) = stands
    by above (inr same) = subst (Contains (class ∷ back)) (some-same class above same) (stands_first class back)
