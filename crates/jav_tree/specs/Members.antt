-- Members of classes (JLS 8.3, 8.4, 8.8).
use Rattle.std.specs.Prelude.{◌≡◌, ℕ, ◌≤◌, max, List, [], ◌∷◌, ◌++◌, map, length, Option, Some, None, Bool, false}
use Rattle.mol_base.specs.Token.{Token}
use Rattle.jav_tree.specs.declared.types.TypeName.{TypeName}
use Rattle.jav_tree.specs.declared.types.TypeName.TheVariants as ty
use Rattle.jav_tree.specs.declared.stmt.Declarator.{Declarator}
use Rattle.jav_tree.specs.declared.stmt.Stmt.{Stmt}
use Rattle.jav_tree.specs.declared.unit.Param.{Param}
use Rattle.jav_tree.specs.declared.unit.Member.{Member}
use Rattle.jav_tree.specs.declared.unit.Member.TheVariants as member
use Rattle.jav_tree.specs.Blocks.{block_of}
use Rattle.jav_tree.specs.Tokens.{IsSymbol, IsKeyword, IsName, Comments, start_of}
use Rattle.jav_tree.specs.Types.{WholeType}
use Rattle.jav_tree.specs.Words.{Words, FieldWords, MethodWords, AbstractWords, ConstructorWords, in_order, kept_of_method, has}
use Rattle.jav_tree.specs.Statements.{MaybeFinal, Variables, BlockOf, ConstructorBlock, fronted, tailed}

-- `void` or a type
pub data Result (limit : ℕ) : TypeName → List Token → Type 0 where
  void : {t : Token} → IsKeyword "void" t → Result limit ty.Void (t ∷ [])
  type : {to : TypeName} {ts : List Token} → WholeType limit to ts → Result limit to ts

-- A parameter; `final` before it is not kept.
pub data Parameter (limit : ℕ) : Param → List Token → Type 0 where
  parameter : {is_final : Bool} {t : Token} {to : TypeName} {ts us : List Token} → MaybeFinal is_final ts → WholeType limit to us → IsName t
      → Parameter limit (record { ty = to; name = t.text }) (ts ++ (us ++ t ∷ []))

-- Parameters separated by commas, at least one.
pub data ParameterList (limit : ℕ) : List Param → List Token → Type 0 where
  last : {p : Param} {ts : List Token} → Parameter limit p ts → ParameterList limit (p ∷ []) ts
  more : {p : Param} {ps : List Param} {comma : Token} {ts us : List Token} → Parameter limit p ts → IsSymbol "," comma → ParameterList limit ps us
      → ParameterList limit (p ∷ ps) (ts ++ comma ∷ us)

-- Parameters in parentheses, at most `limit`.
pub data Parameters (limit : ℕ) : List Param → List Token → Type 0 where
  none : {left right : Token} → IsSymbol "(" left → IsSymbol ")" right → Parameters limit [] (left ∷ right ∷ [])
  some : {left right : Token} {ps : List Param} {ts : List Token} → IsSymbol "(" left → ParameterList limit ps ts → IsSymbol ")" right
      → length ps ≤ limit → Parameters limit ps (left ∷ ts ++ right ∷ [])

-- the field of one variable of a declaration
abbrev pub field_of : List (List ℕ) → ℕ → List (List ℕ) → TypeName → Declarator → Member
field_of front at words to d = member.Field (record { front = front; at = at; words = words; ty = to; name = d.name; init = d.init })

-- The fields of a declaration that begins at this offset: the comments before it go to the first, the further ones begin
-- at their names.
abbrev pub fields_of : List (List ℕ) → ℕ → List (List ℕ) → TypeName → List (ℕ × Declarator) → List Member
fields_of front at words to [] = []
fields_of front at words to (d ∷ ds) = field_of front at words to d.1 ∷ map (λ e. field_of [] e.0 words to e.1) ds

-- whether a constructor may have this name: that of its class; any name where no class is known
abbrev pub MayBeConstructor : Option (List ℕ) → List ℕ → Type 0
MayBeConstructor None name = Unit {0}
MayBeConstructor (Some class) name = name ≡ class

-- Declared limit class height members ts: the tokens declare these members, which are several for a field
-- declaration of several names. `class` is the name of the class, if it is known. The height is that of the highest block
-- or first value, 0 where there is none.
pub data Declared (limit : ℕ) (class : Option (List ℕ)) : ℕ → List Member → List Token → Type 0 where
  field : {h : ℕ} {semi : Token} {front words : List (List ℕ)} {to : TypeName} {ds : List (ℕ × Declarator)} {ts us vs ws : List Token}
      → Comments front ts → Words words us → FieldWords words → WholeType limit to vs → Variables limit h ds ws → IsSymbol ";" semi
      → Declared limit class h (fields_of front (start_of (us ++ vs)) (in_order words) to ds) (ts ++ (us ++ (vs ++ (ws ++ semi ∷ []))))
  method : {h : ℕ} {name : Token} {front words comments tail : List (List ℕ)} {to : TypeName} {ps : List Param} {items : List Stmt}
      {ts us vs ws xs ys : List Token}
      → Comments front ts → Words words us → MethodWords words → Result limit to vs → IsName name → Parameters limit ps ws
      → Comments comments xs → BlockOf limit h items tail ys
      → Declared limit class h (member.Method (record { front = front; at = start_of (us ++ vs); words = kept_of_method words; is_static = has words "static"; result = to; name = name.text; params = ps; block = Some (block_of (fronted comments items) (tailed comments items tail)) }) ∷ [])
      (ts ++ (us ++ (vs ++ (name ∷ ws ++ (xs ++ ys)))))
  abstract_method : {name semi : Token} {front words : List (List ℕ)} {to : TypeName} {ps : List Param} {ts us vs ws : List Token}
      → Comments front ts → Words words us → AbstractWords words → Result limit to vs → IsName name → Parameters limit ps ws → IsSymbol ";" semi
      → Declared limit class 0 (member.Method (record { front = front; at = start_of (us ++ vs); words = kept_of_method words; is_static = false; result = to; name = name.text; params = ps; block = None }) ∷ [])
      (ts ++ (us ++ (vs ++ (name ∷ ws ++ semi ∷ []))))
  constructor_of : {h : ℕ} {name : Token} {front words comments tail : List (List ℕ)} {ps : List Param} {items : List Stmt} {ts us vs ws xs : List Token}
      → Comments front ts → Words words us → ConstructorWords words → IsName name → MayBeConstructor class name.text → Parameters limit ps vs
      → Comments comments ws → ConstructorBlock limit h items tail xs
      → Declared limit class h (member.Ctor (record { front = front; at = start_of (us ++ name ∷ []); words = in_order words; params = ps; block = block_of (fronted comments items) (tailed comments items tail) }) ∷ [])
      (ts ++ (us ++ (name ∷ vs ++ (ws ++ xs))))

-- Any number of declarations of members; the height is that of the highest, 0 where there is none.
pub data Body (limit : ℕ) (class : Option (List ℕ)) : ℕ → List Member → List Token → Type 0 where
  none : Body limit class 0 [] []
  more : {h k : ℕ} {ms ns : List Member} {ts us : List Token} → Declared limit class h ms ts → Body limit class k ns us
      → Body limit class (max h k) (ms ++ ns) (ts ++ us)
