-- In the order of paths no file has a path that is less than one before it.
use Rattle.std.proofs.Common.{◌≡◌, ◌⊎◌, inl, inr, ℕ, Bool, true, false, cond, List, [], ◌∷◌, ◌++◌, Contains, refl, subst}
use Rattle.std.specs.Cmp.{IsStrictWeakOrder}
use Rattle.std.specs.Ordering.{is_lt}
use Rattle.std.proofs.lemmas.Cmp.{nat_list_cmp_total}
use Rattle.std.proofs.lemmas.List.Sorted.{ranks_by}
use Rattle.jav_names.proofs.Lists.{stands_where, stands_nowhere}
use Rattle.mol_resolve_rules.specs.Files.{File}
use Rattle.mol_resolve_rules.specs.Numbering.{path_cmp, put_by_path, by_path}
use Rattle.mol_resolve_rules.proofs.FilesStand.{from-put}

abbrev pub is_less : ℕ × File → ℕ × File → Bool
is_less first second = is_lt (path_cmp first.1.path second.1.path)

order : IsStrictWeakOrder is_less
order = ranks_by nat_list_cmp_total (λ (file : ℕ × File). file.1.path)

-- none of these is less
abbrev NoneLess : ℕ × File → List (ℕ × File) → Type 0
NoneLess file files = (other : ℕ × File) → Contains files other → is_less other file ≡ false

abbrev pub Rises : List (ℕ × File) → Type 0
Rises [] = Unit {0}
Rises (file ∷ files) = NoneLess file files × Rises files

put-rises : (file : ℕ × File) (files : List (ℕ × File)) → Rises files → Rises (put_by_path file files)
put-rises file [] up = ((λ other there. absurd (stands_nowhere other there)), tt)
put-rises file (next ∷ rest) up = by (is_less next file) refl (put-rises file rest up.1) where
  put : is_less next file ≡ true → NoneLess next (put_by_path file rest)
  put less other there = by_place (from-put file rest other there) where
    by_place : (file ≡ other) ⊎ Contains rest other → is_less other next ≡ false
    by_place (inl same) = subst (λ (f : ℕ × File). is_less f next ≡ false) same (order.one_way next file less)
    by_place (inr later) = up.0 other later

  first : is_less next file ≡ false → NoneLess file (next ∷ rest)
  first not_less other there = by_place (stands_where next other rest there) where
    by_place : (next ≡ other) ⊎ Contains rest other → is_less other file ≡ false
    by_place (inl same) = subst (λ (f : ℕ × File). is_less f file ≡ false) same not_less
    by_place (inr later) = order.chain other next file (up.0 other later) not_less

  by : (b : Bool) → is_less next file ≡ b → Rises (put_by_path file rest)
      → Rises (cond b (next ∷ put_by_path file rest) (file ∷ next ∷ rest))
  by true less more = (put less, more)
  by false not_less more = (first not_less, up)

pub by_path-rises : (files : List (ℕ × File)) → Rises (by_path files)
by_path-rises [] = tt
by_path-rises (file ∷ files) = put-rises file (by_path files) (by_path-rises files)

-- none after a file is less
pub none-after : (before after : List (ℕ × File)) (file other : ℕ × File) → Rises (before ++ file ∷ after) → Contains after other
    → is_less other file ≡ false
none-after [] after file other up there = up.0 other there
none-after (first ∷ before) after file other up there = none-after before after file other up.1 there
