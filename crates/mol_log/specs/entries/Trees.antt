-- The lists of words of a row, and which of them spell trees. This is the one file that speaks of the word form.
use Rattle.std.specs.Prelude.{ℕ, List, [], ◌∷◌, ◌++◌, map, Option, None, Some}
use Rattle.mol_base.specs.Limits.{most}
use Rattle.mol_base.specs.declared.limit.Which.TheVariants.{Height}
use Rattle.mol_values_types.specs.declared.iblock.IBody.{IBody}
use Rattle.mol_values_types.specs.declared.iexpr.IExpr.{IExpr}
use Rattle.mol_values_types.specs.declared.itype.IType.{IType}
use Rattle.mol_log_words.specs.FirstBad.{IsFirstBad}
use Rattle.mol_log_words.specs.Types.{IsType, most_dimensions}
use Rattle.mol_log_words.specs.Words.{Word}
use Rattle.mol_log_words.specs.declared.type_role.TypeRole.{TypeRole}
use Rattle.mol_log_words.specs.declared.type_role.TypeRole.TheVariants.{Value, Result, Super}
use Rattle.mol_log_expr.specs.Expressions.{IsExpr}
use Rattle.mol_log_expr.specs.declared.expr_role.ExprRole.TheVariants.{First}
use Rattle.mol_log_body.specs.Bodies.{IsBody}
use Rattle.mol_log_rows.specs.declared.rows.row.ParamRow.{ParamRow}
use Rattle.mol_log_rows.specs.declared.rows.row.Row.{Row}
use Rattle.mol_log_rows.specs.declared.rows.row.Row.TheVariants as rows

-- # Trees

abbrev pub Ws : Type 0
Ws = List Word

-- the words spell the type, which has at most 255 dimensions
abbrev pub SpellsType : TypeRole → IType → Ws → Type 0
SpellsType role = IsType role most_dimensions

-- the words spell the first value, which is no higher than 500; no local is in scope
abbrev pub SpellsValue : IExpr → Ws → Type 0
SpellsValue = IsExpr First (most Height) []

-- the words spell the body, which is no higher than 500
abbrev pub SpellsBody : IBody → Ws → Type 0
SpellsBody = IsBody (most Height)

-- # The lists of words of a row

-- a list of words, and what it is to spell
pub data Part : Type 0 where
  type : TypeRole → Ws → Part
  value : Ws → Part
  body : Ws → Part

abbrev pub maybe : (Ws → Part) → Option Ws → List Part
maybe part None = []
maybe part (Some words) = part words ∷ []

abbrev pub param_types : List ParamRow → List Part
param_types params = map (λ (param : ParamRow). type Value param.ty) params

-- in the order of the parts of the operation
abbrev pub parts : Row → List Part
parts (rows.AddClass row) = maybe (type Super) row.parent
parts (rows.AddField row) = type Value row.ty ∷ maybe value row.value
parts (rows.AddMethod row) = type Result row.result ∷ (param_types row.params ++ maybe body row.body)
parts (rows.AddOverride row) = maybe body row.body
parts (rows.AddConstructor row) = param_types row.params ++ maybe body row.body
parts (rows.Delete row) = []
parts (rows.SetBody row) = maybe body row.body
parts (rows.SetValue row) = type Value row.ty ∷ maybe value row.value
parts (rows.RenameClass row) = []
parts (rows.RenameMethod row) = []
parts (rows.MoveClass row) = []
parts (rows.MoveMethod row) = []
parts (rows.ChangeSignature row) = type Result row.result ∷ param_types row.params

-- # Good and bad ones

-- the words spell a tree
abbrev pub IsGood : Part → Type 0
IsGood (type role words) = (ty : IType) × SpellsType role ty words
IsGood (value words) = (init : IExpr) × SpellsValue init words
IsGood (body words) = (block : IBody) × SpellsBody block words

-- the first word up to which no tree begins so
abbrev pub IsBad : Part → ℕ → Type 0
IsBad (type role words) word = IsFirstBad (SpellsType role) words word
IsBad (value words) word = IsFirstBad SpellsValue words word
IsBad (body words) word = IsFirstBad SpellsBody words word

abbrev pub AreGood : List Part → Type 0
AreGood [] = Unit {0}
AreGood (part ∷ more) = IsGood part × AreGood more

-- the first bad word of the first bad list
pub data HaveBad : List Part → ℕ → Type 0 where
  here : {part : Part} {more : List Part} {word : ℕ} → IsBad part word → HaveBad (part ∷ more) word
  later : {part : Part} {more : List Part} {word : ℕ} → IsGood part → HaveBad more word → HaveBad (part ∷ more) word

-- all words of the row are trees
abbrev pub Good : Row → Type 0
Good row = AreGood (parts row)

-- the first bad word of the row
abbrev pub Bad : Row → ℕ → Type 0
Bad row word = HaveBad (parts row) word
