-- What an index of simple names finds among imports.
use Rattle.std.proofs.Common.{◌≡◌, ℕ, suc, ◌+◌, Bool, true, false, cond, List, [], ◌∷◌, map, Option, Some, None, find, slice_get, refl, sym, ◌∙◌, ap, arith, bytes_eq}
use Rattle.std.specs.List.{enumerate_from}
use Rattle.std.proofs.lemmas.Map.Text.{is_eq-slice_cmp}
use Rattle.jav_names.specs.index.Seeking.{is_sought}
use Rattle.jav_names.specs.declared.index.entry.Entry.{Entry}
use Rattle.jav_scope.specs.Entries.{import_entry}
use Rattle.jav_names.specs.DottedNames.{Name, Names, simple_name}
use Rattle.jav_names.specs.LookUps.{import_of}

module _ (name : Name) where
  -- what is found where places count from a number on
  abbrev pub entry_from : ℕ → Names → Option Entry
  entry_from n imports = find (is_sought 0 0 name) (map (import_entry 0) (enumerate_from n imports))

  entry-first : (n : ℕ) (import : Name) (imports : Names) → entry_from n (import ∷ imports)
      ≡ cond (bytes_eq (simple_name import) name) (Some (import_entry 0 (n, import))) (entry_from (n + 1) imports)
  entry-first n import imports =
      ap (λ b. cond b (Some (import_entry 0 (n, import))) (entry_from (n + 1) imports)) (is_eq-slice_cmp (simple_name import) name)

  pub import-there : (n : ℕ) (imports : Names) (entry : Entry) → entry_from n imports ≡ Some entry
      → (k : ℕ) × (entry.place ≡ n + k) × (slice_get imports k ≡ import_of imports name)
  import-there n [] entry is = absurd cc
  import-there n (import ∷ imports) entry is =
      by_test (bytes_eq (simple_name import) name) (sym (entry-first n import imports) ∙ is) (import-there (n + 1) imports entry) where
        by_test : (b : Bool) → cond b (Some (import_entry 0 (n, import))) (entry_from (n + 1) imports) ≡ Some entry
            → (entry_from (n + 1) imports ≡ Some entry
            → (k : ℕ) × (entry.place ≡ n + 1 + k) × (slice_get imports k ≡ import_of imports name))
            → (k : ℕ) × (entry.place ≡ n + k) × (slice_get (import ∷ imports) k ≡ cond b (Some import) (import_of imports name))
        by_test true is more =
            let same : import_entry 0 (n, import) ≡ entry = cc in
            (0, omega (arith, ap (λ (e : Entry). e.place) same), refl)
        by_test false is more = let later = more is in (suc later.0, omega (arith, later.1), later.2)

  pub import-nowhere : (n : ℕ) (imports : Names) → entry_from n imports ≡ None → import_of imports name ≡ None
  import-nowhere n [] is = refl
  import-nowhere n (import ∷ imports) is =
      by_test (bytes_eq (simple_name import) name) (sym (entry-first n import imports) ∙ is) (import-nowhere (n + 1) imports) where
        by_test : (b : Bool) → cond b (Some (import_entry 0 (n, import))) (entry_from (n + 1) imports) ≡ None
            → (entry_from (n + 1) imports ≡ None → import_of imports name ≡ None) → cond b (Some import) (import_of imports name) ≡ None
        by_test true is more = absurd cc
        by_test false is more = more is
