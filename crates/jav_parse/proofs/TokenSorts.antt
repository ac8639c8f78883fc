-- What the grammar asks of a token, from its sort.
use Rattle.std.proofs.Common.{◌≡◌, ◌⊎◌, inl, inr, ◌<◌, true, false, [], ◌∷◌, refl, codes, Some, arith}
use Rattle.mol_base.specs.Token.{Token}
use Rattle.mol_base.specs.declared.token_kind.TokenKind.TheVariants as kind
use Rattle.mol_base.specs.Operators.{binary_level, is_assignment, is_step, is_prefix, is_sign}
use Rattle.jav_tree.specs.Operators.{IsBinary, IsAssignment, IsStep, IsPrefix, IsSign}
use Rattle.jav_tree.specs.Tokens.{IsSymbol, IsKeyword, IsName, IsLiteral, IsComment}
use Rattle.jav_tree.specs.Types.{IsPrimitive}
use Rattle.jav_tree.specs.Types as types
use Rattle.jav_parse_cursor.specs.declared.sort.Sort.TheVariants as sort
use Rattle.jav_parse_cursor.specs.declared.sort.Sort.{Sort}
use Rattle.jav_parse_expr.specs.ExprRules as rules
use Rattle.jav_parse_expr.specs.ExprRules.{level_of, begins_operand}
use Rattle.jav_parse_cursor.specs.Sorts.{same_sort, sort_of, symbols}
use Rattle.jav_parse.proofs.Written.{OneOf, texts_of, symbol_of, keyword_of, word_of, literal_of, comment_of, each}

only : {A : Type 0} → A ⊎ ⊥ → A
only (inl a) = a
only (inr n) = absurd n

pub name_is : (t : Token) → sort_of t ≡ sort.Name → IsName t
unfolding same_sort
name_is t h = record { word = word_of t h }

pub dot_is : (t : Token) → sort_of t ≡ sort.Dot → IsSymbol "." t
unfolding same_sort
dot_is t h = let k = symbol_of t sort.Dot (refl, refl, refl, refl) (λ w n. n) h in record { symbol = k.0; written = only k.1 }

pub open_is : (t : Token) → sort_of t ≡ sort.Open → IsSymbol "(" t
unfolding same_sort
open_is t h = let k = symbol_of t sort.Open (refl, refl, refl, refl) (λ w n. n) h in record { symbol = k.0; written = only k.1 }

pub close_is : (t : Token) → sort_of t ≡ sort.Close → IsSymbol ")" t
unfolding same_sort
close_is t h = let k = symbol_of t sort.Close (refl, refl, refl, refl) (λ w n. n) h in record { symbol = k.0; written = only k.1 }

pub left_is : (t : Token) → sort_of t ≡ sort.Left → IsSymbol "[" t
unfolding same_sort
left_is t h = let k = symbol_of t sort.Left (refl, refl, refl, refl) (λ w n. n) h in record { symbol = k.0; written = only k.1 }

pub right_is : (t : Token) → sort_of t ≡ sort.Right → IsSymbol "]" t
unfolding same_sort
right_is t h = let k = symbol_of t sort.Right (refl, refl, refl, refl) (λ w n. n) h in record { symbol = k.0; written = only k.1 }

pub begin_is : (t : Token) → sort_of t ≡ sort.Begin → IsSymbol "{" t
unfolding same_sort
begin_is t h = let k = symbol_of t sort.Begin (refl, refl, refl, refl) (λ w n. n) h in record { symbol = k.0; written = only k.1 }

pub finish_is : (t : Token) → sort_of t ≡ sort.Finish → IsSymbol "}" t
unfolding same_sort
finish_is t h = let k = symbol_of t sort.Finish (refl, refl, refl, refl) (λ w n. n) h in record { symbol = k.0; written = only k.1 }

pub semi_is : (t : Token) → sort_of t ≡ sort.Semi → IsSymbol ";" t
unfolding same_sort
semi_is t h = let k = symbol_of t sort.Semi (refl, refl, refl, refl) (λ w n. n) h in record { symbol = k.0; written = only k.1 }

pub comma_is : (t : Token) → sort_of t ≡ sort.Comma → IsSymbol "," t
unfolding same_sort
comma_is t h = let k = symbol_of t sort.Comma (refl, refl, refl, refl) (λ w n. n) h in record { symbol = k.0; written = only k.1 }

pub at_is : (t : Token) → sort_of t ≡ sort.At → IsSymbol "@" t
unfolding same_sort
at_is t h = let k = symbol_of t sort.At (refl, refl, refl, refl) (λ w n. n) h in record { symbol = k.0; written = only k.1 }

pub question_is : (t : Token) → sort_of t ≡ sort.Question → IsSymbol "?" t
unfolding same_sort
question_is t h = let k = symbol_of t sort.Question (refl, refl, refl, refl) (λ w n. n) h in record { symbol = k.0; written = only k.1 }

pub colon_is : (t : Token) → sort_of t ≡ sort.Colon → IsSymbol ":" t
unfolding same_sort
colon_is t h = let k = symbol_of t sort.Colon (refl, refl, refl, refl) (λ w n. n) h in record { symbol = k.0; written = only k.1 }

pub equals_is : (t : Token) → sort_of t ≡ sort.Equals → IsSymbol "=" t
unfolding same_sort
equals_is t h = let k = symbol_of t sort.Equals (refl, refl, refl, refl) (λ w n. n) h in record { symbol = k.0; written = only k.1 }

pub new_is : (t : Token) → sort_of t ≡ sort.New → IsKeyword "new" t
unfolding same_sort
new_is t h = let k = keyword_of t sort.New (refl, refl, refl, refl) (λ w n. n) h in record { keyword = k.0; written = only k.1 }

pub this_is : (t : Token) → sort_of t ≡ sort.This → IsKeyword "this" t
unfolding same_sort
this_is t h = let k = keyword_of t sort.This (refl, refl, refl, refl) (λ w n. n) h in record { keyword = k.0; written = only k.1 }

pub super_is : (t : Token) → sort_of t ≡ sort.Super → IsKeyword "super" t
unfolding same_sort
super_is t h = let k = keyword_of t sort.Super (refl, refl, refl, refl) (λ w n. n) h in record { keyword = k.0; written = only k.1 }

pub instance_of_is : (t : Token) → sort_of t ≡ sort.InstanceOf → IsKeyword "instanceof" t
unfolding same_sort
instance_of_is t h = let k = keyword_of t sort.InstanceOf (refl, refl, refl, refl) (λ w n. n) h in record { keyword = k.0; written = only k.1 }

pub if_is : (t : Token) → sort_of t ≡ sort.If → IsKeyword "if" t
unfolding same_sort
if_is t h = let k = keyword_of t sort.If (refl, refl, refl, refl) (λ w n. n) h in record { keyword = k.0; written = only k.1 }

pub else_is : (t : Token) → sort_of t ≡ sort.Else → IsKeyword "else" t
unfolding same_sort
else_is t h = let k = keyword_of t sort.Else (refl, refl, refl, refl) (λ w n. n) h in record { keyword = k.0; written = only k.1 }

pub while_is : (t : Token) → sort_of t ≡ sort.While → IsKeyword "while" t
unfolding same_sort
while_is t h = let k = keyword_of t sort.While (refl, refl, refl, refl) (λ w n. n) h in record { keyword = k.0; written = only k.1 }

pub for_is : (t : Token) → sort_of t ≡ sort.For → IsKeyword "for" t
unfolding same_sort
for_is t h = let k = keyword_of t sort.For (refl, refl, refl, refl) (λ w n. n) h in record { keyword = k.0; written = only k.1 }

pub return_is : (t : Token) → sort_of t ≡ sort.Return → IsKeyword "return" t
unfolding same_sort
return_is t h = let k = keyword_of t sort.Return (refl, refl, refl, refl) (λ w n. n) h in record { keyword = k.0; written = only k.1 }

pub throw_is : (t : Token) → sort_of t ≡ sort.Throw → IsKeyword "throw" t
unfolding same_sort
throw_is t h = let k = keyword_of t sort.Throw (refl, refl, refl, refl) (λ w n. n) h in record { keyword = k.0; written = only k.1 }

pub break_is : (t : Token) → sort_of t ≡ sort.Break → IsKeyword "break" t
unfolding same_sort
break_is t h = let k = keyword_of t sort.Break (refl, refl, refl, refl) (λ w n. n) h in record { keyword = k.0; written = only k.1 }

pub continue_is : (t : Token) → sort_of t ≡ sort.Continue → IsKeyword "continue" t
unfolding same_sort
continue_is t h = let k = keyword_of t sort.Continue (refl, refl, refl, refl) (λ w n. n) h in record { keyword = k.0; written = only k.1 }

pub final_is : (t : Token) → sort_of t ≡ sort.Final → IsKeyword "final" t
unfolding same_sort
final_is t h = let k = keyword_of t sort.Final (refl, refl, refl, refl) (λ w n. n) h in record { keyword = k.0; written = only k.1 }

pub void_is : (t : Token) → sort_of t ≡ sort.Void → IsKeyword "void" t
unfolding same_sort
void_is t h = let k = keyword_of t sort.Void (refl, refl, refl, refl) (λ w n. n) h in record { keyword = k.0; written = only k.1 }

pub package_is : (t : Token) → sort_of t ≡ sort.Package → IsKeyword "package" t
unfolding same_sort
package_is t h = let k = keyword_of t sort.Package (refl, refl, refl, refl) (λ w n. n) h in record { keyword = k.0; written = only k.1 }

pub import_is : (t : Token) → sort_of t ≡ sort.Import → IsKeyword "import" t
unfolding same_sort
import_is t h = let k = keyword_of t sort.Import (refl, refl, refl, refl) (λ w n. n) h in record { keyword = k.0; written = only k.1 }

pub class_is : (t : Token) → sort_of t ≡ sort.Class → IsKeyword "class" t
unfolding same_sort
class_is t h = let k = keyword_of t sort.Class (refl, refl, refl, refl) (λ w n. n) h in record { keyword = k.0; written = only k.1 }

pub extends_is : (t : Token) → sort_of t ≡ sort.Extends → IsKeyword "extends" t
unfolding same_sort
extends_is t h = let k = keyword_of t sort.Extends (refl, refl, refl, refl) (λ w n. n) h in record { keyword = k.0; written = only k.1 }

pub literal_is : (t : Token) → sort_of t ≡ sort.Literal → IsLiteral t
literal_is t h = record { literal = literal_of t h }

pub comment_is : (t : Token) → sort_of t ≡ sort.Comment → IsComment t
comment_is t h = record { comment = comment_of t h }

primitive_by : (t : Token) → t.kind ≡ kind.Keyword → OneOf (codes "int" ∷ codes "boolean" ∷ codes "char" ∷ codes "long" ∷ codes "byte" ∷ codes "short" ∷ []) t.text → IsPrimitive t
primitive_by t k (inl e) = types.int k e
primitive_by t k (inr (inl e)) = types.boolean k e
primitive_by t k (inr (inr (inl e))) = types.char k e
primitive_by t k (inr (inr (inr (inl e)))) = types.long k e
primitive_by t k (inr (inr (inr (inr (inl e))))) = types.byte k e
primitive_by t k (inr (inr (inr (inr (inr (inl e)))))) = types.short k e
primitive_by t k (inr (inr (inr (inr (inr (inr n)))))) = absurd n

pub primitive_is : (t : Token) → sort_of t ≡ sort.Prim → IsPrimitive t
unfolding same_sort
primitive_is t h = let k = keyword_of t sort.Prim (refl, refl, refl, refl) (λ w n. n) h in primitive_by t k.0 k.1

-- ---- operators

pub step_is : (t : Token) → sort_of t ≡ sort.Step → IsStep t
unfolding same_sort
step_is t h = let k = symbol_of t sort.Step (refl, refl, refl, refl) (λ w n. n) h in record { symbol = k.0; written = each (λ w. is_step w ≡ true) (texts_of sort.Step symbols) t.text (refl, (refl, tt)) k.1 }

pub sign_is : (t : Token) → sort_of t ≡ sort.Sign → IsPrefix t
unfolding same_sort
sign_is t h = let k = symbol_of t sort.Sign (refl, refl, refl, refl) (λ w n. n) h in record { symbol = k.0; written = each (λ w. is_prefix w ≡ true) (texts_of sort.Sign symbols) t.text (refl, (refl, tt)) k.1 }

pub not_is : (t : Token) → sort_of t ≡ sort.Not → IsPrefix t
unfolding same_sort
not_is t h = let k = symbol_of t sort.Not (refl, refl, refl, refl) (λ w n. n) h in record { symbol = k.0; written = each (λ w. is_prefix w ≡ true) (texts_of sort.Not symbols) t.text (refl, (refl, tt)) k.1 }

pub assignment_is : (t : Token) (s : Sort) → sort_of t ≡ s → rules.is_assignment s ≡ true → IsAssignment t
unfolding same_sort
assignment_is t sort.Equals h b = let k = symbol_of t sort.Equals (refl, refl, refl, refl) (λ w n. n) h in record { symbol = k.0; written = each (λ w. is_assignment w ≡ true) (texts_of sort.Equals symbols) t.text (refl, tt) k.1 }
assignment_is t sort.Compound h b = let k = symbol_of t sort.Compound (refl, refl, refl, refl) (λ w n. n) h in
    record { symbol = k.0; written = each (λ w. is_assignment w ≡ true) (texts_of sort.Compound symbols) t.text (refl, (refl, (refl, (refl, (refl, (refl, (refl, (refl, (refl, (refl, (refl, tt))))))))))) k.1 }
assignment_is t s h b = absurd (cc)

pub binary_is : (t : Token) (s : Sort) → sort_of t ≡ s → same_sort s sort.InstanceOf ≡ false → 0 < level_of s → IsBinary (level_of s) t
unfolding same_sort
binary_is t sort.Or h n b = let k = symbol_of t sort.Or (refl, refl, refl, refl) (λ w n. n) h in record { symbol = k.0; level_is = each (λ w. binary_level w ≡ Some 3) (texts_of sort.Or symbols) t.text (refl, tt) k.1 }
binary_is t sort.And h n b = let k = symbol_of t sort.And (refl, refl, refl, refl) (λ w n. n) h in record { symbol = k.0; level_is = each (λ w. binary_level w ≡ Some 4) (texts_of sort.And symbols) t.text (refl, tt) k.1 }
binary_is t sort.BitOr h n b = let k = symbol_of t sort.BitOr (refl, refl, refl, refl) (λ w n. n) h in record { symbol = k.0; level_is = each (λ w. binary_level w ≡ Some 5) (texts_of sort.BitOr symbols) t.text (refl, tt) k.1 }
binary_is t sort.Xor h n b = let k = symbol_of t sort.Xor (refl, refl, refl, refl) (λ w n. n) h in record { symbol = k.0; level_is = each (λ w. binary_level w ≡ Some 6) (texts_of sort.Xor symbols) t.text (refl, tt) k.1 }
binary_is t sort.BitAnd h n b = let k = symbol_of t sort.BitAnd (refl, refl, refl, refl) (λ w n. n) h in record { symbol = k.0; level_is = each (λ w. binary_level w ≡ Some 7) (texts_of sort.BitAnd symbols) t.text (refl, tt) k.1 }
binary_is t sort.Equality h n b = let k = symbol_of t sort.Equality (refl, refl, refl, refl) (λ w n. n) h in record { symbol = k.0; level_is = each (λ w. binary_level w ≡ Some 8) (texts_of sort.Equality symbols) t.text (refl, (refl, tt)) k.1 }
binary_is t sort.Relation h n b = let k = symbol_of t sort.Relation (refl, refl, refl, refl) (λ w n. n) h in
    record { symbol = k.0; level_is = each (λ w. binary_level w ≡ Some 9) (texts_of sort.Relation symbols) t.text (refl, (refl, (refl, (refl, tt)))) k.1 }
binary_is t sort.Shift h n b = let k = symbol_of t sort.Shift (refl, refl, refl, refl) (λ w n. n) h in record { symbol = k.0; level_is = each (λ w. binary_level w ≡ Some 10) (texts_of sort.Shift symbols) t.text (refl, (refl, (refl, tt))) k.1 }
binary_is t sort.Sign h n b = let k = symbol_of t sort.Sign (refl, refl, refl, refl) (λ w n. n) h in record { symbol = k.0; level_is = each (λ w. binary_level w ≡ Some 11) (texts_of sort.Sign symbols) t.text (refl, (refl, tt)) k.1 }
binary_is t sort.Product h n b = let k = symbol_of t sort.Product (refl, refl, refl, refl) (λ w n. n) h in record { symbol = k.0; level_is = each (λ w. binary_level w ≡ Some 12) (texts_of sort.Product symbols) t.text (refl, (refl, (refl, tt))) k.1 }
binary_is t sort.InstanceOf h n b = absurd (cc)
binary_is t s h n b = absurd (omega arith)

-- what begins the operand of a cast is no sign
no_sign_symbol : (t : Token) → is_sign t.text ≡ true → is_sign t.text ≡ false → ⊥
no_sign_symbol t a b = cc

pub no_sign : (t : Token) (s : Sort) → sort_of t ≡ s → begins_operand s ≡ true → IsSign t → ⊥
unfolding same_sort
no_sign t sort.Name h b sign = let k = word_of t h in let j = sign.symbol in cc
no_sign t sort.Literal h b sign = let k = literal_of t h in let j = sign.symbol in cc
no_sign t sort.This h b sign = let k = (this_is t h).keyword in let j = sign.symbol in cc
no_sign t sort.Super h b sign = let k = (super_is t h).keyword in let j = sign.symbol in cc
no_sign t sort.New h b sign = let k = (new_is t h).keyword in let j = sign.symbol in cc
no_sign t sort.Open h b sign = let k = symbol_of t sort.Open (refl, refl, refl, refl) (λ w n. n) h in no_sign_symbol t sign.written (each (λ w. is_sign w ≡ false) (texts_of sort.Open symbols) t.text (refl, tt) k.1)
no_sign t sort.Not h b sign = let k = symbol_of t sort.Not (refl, refl, refl, refl) (λ w n. n) h in no_sign_symbol t sign.written (each (λ w. is_sign w ≡ false) (texts_of sort.Not symbols) t.text (refl, (refl, tt)) k.1)
no_sign t s h b sign = cc
