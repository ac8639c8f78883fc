-- What is found among entries that are made of the elements of a list.
use Rattle.std.proofs.Common.{◌≡◌, Bool, true, false, cond, List, [], ◌∷◌, Option, Some, None, option_map, map, filter_map, find, refl, sym, ◌∙◌, ap}
use Rattle.std.specs.List.{cons_option}
use Rattle.mol_base.specs.declared.ident.Id.{Id}
use Rattle.jav_names.specs.declared.id_index.entry.Entry.{Entry}

abbrev pub id_of : Entry → Id
id_of entry = entry.id

module _ {X : Type 0} (make : X → Option Entry) (key : X → Id) (passes : X → Bool) (sought : Entry → Bool) where
  -- An element of which no entry is made does not pass; else the entry is sought where the element passes, and has its key.
  abbrev pub Fits : X → Option Entry → Type 0
  Fits x None = passes x ≡ false
  Fits x (Some entry) = (sought entry ≡ passes x) × (entry.id ≡ key x)

  pub found-made : ((x : X) → Fits x (make x)) → (xs : List X)
      → option_map id_of (find sought (filter_map make xs)) ≡ option_map key (find passes xs)
  found-made fits [] = refl
  found-made fits (x ∷ xs) = by (make x) (fits x) (found-made fits xs) where
    by_test : (entry : Entry) → entry.id ≡ key x → option_map id_of (find sought (filter_map make xs)) ≡ option_map key (find passes xs)
        → (b : Bool) → option_map id_of (cond b (Some entry) (find sought (filter_map make xs)))
        ≡ option_map key (cond b (Some x) (find passes xs))
    by_test entry same more true = ap (λ (id : Id). Some id) same
    by_test entry same more false = more

    by : (o : Option Entry) → Fits x o → option_map id_of (find sought (filter_map make xs)) ≡ option_map key (find passes xs)
        → option_map id_of (find sought (cons_option o (filter_map make xs))) ≡ option_map key (cond (passes x) (Some x) (find passes xs))
    by None fails more = more ∙ sym (ap (λ b. option_map key (cond b (Some x) (find passes xs))) fails)
    by (Some entry) fit more =
        ap (λ b. option_map id_of (cond b (Some entry) (find sought (filter_map make xs)))) fit.0
        ∙ by_test entry fit.1 more (passes x)

-- what is made of each element
pub mapped-made : {X Y : Type 0} (make : X → Y) (xs : List X) → map make xs ≡ filter_map (λ x. Some (make x)) xs
mapped-made make [] = refl
mapped-made make (x ∷ xs) = ap (λ ys. make x ∷ ys) (mapped-made make xs)
