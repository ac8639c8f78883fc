-- What is kept of locals stands after each step.
use Rattle.std.proofs.Common.{◌≡◌, ℕ, ◌<◌, List, [], ◌∷◌, ◌++◌, length, take, refl, sym, ap, ◌∙◌, subst, arith}
use Rattle.std.proofs.lemmas.List.{length-map, length_push, map_push, take-map}
use Rattle.std.proofs.lemmas.List.Elements.{All-nil, All-push, All-take, All-weaker}
use Rattle.std.specs.List.{All}
use Rattle.jav_names.specs.DottedNames.{Names}
use Rattle.mol_spell_places.proofs.body_locals_lemmas.NamesDeclared.{names-declared}
use Rattle.mol_spell_places.specs.body_locals.Kept.{AreNamed, Kept, local_of, locals_of}
use Rattle.mol_spell_places.specs.declared.body_locals.body_local.BodyLocal.{BodyLocal}
use Rattle.mol_resolve_rules.specs.Locals.{declare, local_name, names_in_scope}

pub nothing-named : AreNamed [] [] []
nothing-named = record { inside = All-nil (λ number. number < 0); are_names = refl }

-- ---- one local more

module _ (declared : List BodyLocal) (before : List ℕ) (local : BodyLocal) where
  abbrev old : Kept
  old = record { declared = declared; in_scope = before }

  abbrev more : List BodyLocal
  more = declared ++ local ∷ []

  declares : locals_of (record { declared = more; in_scope = before ++ length declared ∷ [] }) ≡ declare (local_of local) (locals_of old)
  declares = λ i. record {
    declared = map_push local_of declared local i;
    in_scope = before ++ sym (length-map declared local_of) i ∷ [];
  }

  more-named : (names : Names) → AreNamed declared before names
      → AreNamed more (before ++ length declared ∷ []) (names ++ local.name.now ∷ [])
  more-named names named = record {
    inside = All-push (λ number. number < length more) before (length declared)
        (All-weaker (λ number. number < length declared) (λ number. number < length more)
        (λ number there. omega (arith, length_push declared local)) before named.inside)
        (omega (arith, length_push declared local));
    are_names = ap (λ names. names ++ local.name.now ∷ []) named.are_names
        ∙ sym (names-declared (locals_of old) (local_of local)
        (subst (λ count. All (λ number. number < count) before) (sym (length-map declared local_of)) named.inside))
        ∙ ap names_in_scope (sym declares);
  }

  pub entered : (all : List BodyLocal) (after : List ℕ) (names newer : Names) (number : ℕ) → AreNamed declared before names
      → number ≡ length declared → all ≡ more → after ≡ before ++ number ∷ [] → newer ≡ names ++ local.name.now ∷ []
      → AreNamed all after newer
  entered all after names newer number named next is further now =
      subst (λ all. AreNamed all after newer) (sym is)
      (subst (λ after. AreNamed more after newer) (sym (further ∙ ap (λ n. before ++ n ∷ []) next))
      (subst (λ newer. AreNamed more (before ++ length declared ∷ []) newer) (sym now) (more-named names named)))

  pub declared-so : (all : List BodyLocal) (after : List ℕ) → (all ≡ more) × (after ≡ before ++ length declared ∷ [])
      → locals_of (record { declared = all; in_scope = after }) ≡ declare (local_of local) (locals_of old)
  declared-so all after (is, further) = (λ i. locals_of (record { declared = is i; in_scope = further i })) ∙ declares

-- ---- no local more, and fewer

pub unchanged : (declared all : List BodyLocal) (before after : List ℕ) (names newer : Names) → AreNamed declared before names
    → all ≡ declared → after ≡ before → newer ≡ names → AreNamed all after newer
unchanged declared all before after names newer named same kept still =
    subst (λ all. AreNamed all after newer) (sym same)
    (subst (λ after. AreNamed declared after newer) (sym kept)
    (subst (λ newer. AreNamed declared before newer) (sym still) named))

pub same-kept : (declared all : List BodyLocal) (before after : List ℕ) → (all ≡ declared) × (after ≡ before)
    → ◌≡◌ {A = Kept} (record { declared = all; in_scope = after }) (record { declared = declared; in_scope = before })
same-kept declared all before after (same, kept) = λ i. record { declared = same i; in_scope = kept i }

pub fewer : (declared : List BodyLocal) (before after : List ℕ) (names newer : Names) (mark : ℕ) → AreNamed declared before names
    → after ≡ take mark before → newer ≡ take mark names → AreNamed declared after newer
fewer declared before after names newer mark named is now =
    subst (λ after. AreNamed declared after newer) (sym is)
    (record {
      inside = All-take (λ number. number < length declared) mark before named.inside;
      are_names = now ∙ ap (take mark) named.are_names
          ∙ take-map (local_name (locals_of (record { declared = declared; in_scope = before }))) mark before;
    })
