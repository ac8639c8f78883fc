-- The rules of names with dots and of types.
use Rattle.std.specs.Prelude.{ℕ, zero, suc, ◌+◌, ◌-◌, Bool, if◌then◌else◌, List, [], ◌∷◌, ◌++◌}
use Rattle.mol_base.specs.Token.{Token}
use Rattle.jav_tree.specs.declared.types.TypeName.{TypeName}
use Rattle.jav_tree.specs.declared.types.TypeName.TheVariants as ty
use Rattle.jav_parse_cursor.specs.declared.limits.Limits.{Limits}
use Rattle.jav_parse_cursor.specs.declared.sort.Sort.{Sort}
use Rattle.jav_parse_cursor.specs.declared.sort.Sort.TheVariants.{Name, Dot, Left, Right, Prim}
use Rattle.jav_parse_cursor.specs.Nodes.{text_of, array_type}
use Rattle.jav_parse_cursor.specs.Reading.{Parser, ◌>>=◌, ◌>>◌, pure, refuse, peek, take_token, expect}
use Rattle.jav_parse_cursor.specs.Sorts.{same_sort}

-- dots and names, after the names that are given
unfoldable pub further_names : ℕ → List Token → Parser (List Token)
further_names zero names = refuse
further_names (suc n) names = do
  s ← peek
  if same_sort s Dot then (do
    dot ← take_token
    t ← expect Name
    further_names n (names ++ dot ∷ t ∷ [])) else pure names

unfoldable pub qualified : ℕ → Parser (List Token)
qualified n = do
  t ← expect Name
  further_names n (t ∷ [])

unfoldable pub primitive : Parser TypeName
primitive = do
  t ← expect Prim
  pure (ty.Prim t.text)

unfoldable pub base_type : ℕ → Parser TypeName
base_type n = do
  s ← peek
  if same_sort s Prim then primitive else (qualified n >>= (λ names. pure (ty.Named (text_of names))))

-- at most n further pairs of brackets, after k of them
unfoldable pub brackets : ℕ → ℕ → Parser ℕ
brackets zero k = pure k
brackets (suc n) k = do
  s ← peek
  if same_sort s Left then (do
    take_token
    expect Right
    brackets n (k + 1)) else pure k

-- a type after its base and k pairs of brackets
unfoldable pub type_after : Limits → TypeName → ℕ → Parser TypeName
type_after l base k = do
  n ← brackets (l.most - k) k
  pure (array_type l.builds n base)

unfoldable pub whole_type : Limits → Parser TypeName
whole_type l = do
  base ← base_type l.turns
  type_after l base 0
