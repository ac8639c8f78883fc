-- Keywords by the number of their bytes.
use Rattle.std.proofs.Common.{◌≡◌, ◌∙◌, sym, ap, ℕ, List, length, Bool, true, false, ◌==◌, ◌&&◌, nat_lt, not}
use Rattle.std.specs.List.{list_any, filter}
use Rattle.std.specs.Str.{bytes_eq}
use Rattle.std.proofs.lemmas.Bool.Decides.{Decides-eqb}
use Rattle.std.proofs.lemmas.Slice.Eq.{bytes_eq-Decides}
use Rattle.std.proofs.lemmas.Map.Views.{any-filter_same}
use Rattle.mol_base.specs.Lexical.Names.{is_keyword, keywords}

-- a name is compared with the keywords of its length alone
pub is_keyword-length : (name : List ℕ) (n : ℕ) → length name ≡ n →
    is_keyword name ≡ list_any (λ word. bytes_eq word name) (filter (λ word. length word == n) keywords)
unfolding is_keyword
is_keyword-length name n e =
    sym (any-filter_same (λ word. bytes_eq word name) (λ word. length word == n) true
    (λ word same. (Decides-eqb (length word) n).1 (ap length ((bytes_eq-Decides word name).0 same) ∙ e)) keywords)

-- how many bytes a keyword may have
unfoldable pub is_length : ℕ → Bool
is_length n = nat_lt 1 n && nat_lt n 13 && not (n == 11)

-- a name of another length is none
pub is_keyword-no_length : (name : List ℕ) → is_length (length name) ≡ false → is_keyword name ≡ false
unfolding is_keyword keywords is_length
is_keyword-no_length name none =
    any-filter_same (λ word. bytes_eq word name) (λ word. is_length (length word)) (is_length (length name))
    (λ word same. ap (λ bytes. is_length (length bytes)) ((bytes_eq-Decides word name).0 same)) keywords
    ∙ ap (λ b. b && is_keyword name) none
