-- The keywords of the language as phrases.
use Rattle.std.proofs.Common.{◌≡◌, ℕ, true, refl, codes, List, [], ◌∷◌, Some}
use Prim.Native.String.{String}
use Rattle.std.specs.Str.{is_utf8, chars}
use Rattle.ucd_derived.specs.Binary.{is_xid_start, is_xid_continue}
use Rattle.ucd_derived.specs.XidStartRanges.{xid_start_ranges}
use Rattle.ucd_derived.specs.XidContinueRanges.{xid_continue_ranges}
use Rattle.ucd_table.specs.Rows.{in_ranges}
use Rattle.mol_base.specs.Lexical.Characters.{first_char}
use Rattle.mol_base.specs.Lexical.Names.{is_start, is_part, starts_name, goes_on, name, word_kind, is_keyword, keywords}
use Rattle.mol_base.specs.Lexical.Front.{front, is_clean, token_kind}
use Rattle.mol_base.specs.declared.token_kind.TokenKind.TheVariants as kind
use Rattle.jav_print_laws.specs.pieces.Pieces.{may_follow}
use Rattle.jav_tree.specs.Tokens.{IsKeyword}
use Rattle.jav_print_laws.proofs.layout_lemmas.Each.{Each}
use Rattle.jav_print_laws.proofs.layout_lemmas.Phrases.{Phrase, Alone, Breaks, one_token, narrow}

abbrev pub IsWordy : List ℕ → Type 0
IsWordy text = token_kind text ≡ Some kind.Keyword

pub words_of_expressions : Each IsWordy ("this" ∷ "super" ∷ "new" ∷ "instanceof" ∷ [])
unfolding token_kind is_clean is_utf8 chars front starts_name first_char is_start is_xid_start in_ranges xid_start_ranges is_part is_xid_continue xid_continue_ranges goes_on name word_kind is_keyword keywords lib.Utf8.encode
words_of_expressions = (refl, (refl, (refl, (refl, tt))))

pub words_of_statements : Each IsWordy ("if" ∷ "else" ∷ "while" ∷ "for" ∷ "return" ∷ "throw" ∷ "break" ∷ "continue" ∷ "final" ∷ [])
unfolding token_kind is_clean is_utf8 chars front starts_name first_char is_start is_xid_start in_ranges xid_start_ranges is_part is_xid_continue xid_continue_ranges goes_on name word_kind is_keyword keywords lib.Utf8.encode
words_of_statements = (refl, (refl, (refl, (refl, (refl, (refl, (refl, (refl, (refl, tt)))))))))

pub words_of_units : Each IsWordy ("package" ∷ "import" ∷ "class" ∷ "extends" ∷ "void" ∷ [])
unfolding token_kind is_clean is_utf8 chars front starts_name first_char is_start is_xid_start in_ranges xid_start_ranges is_part is_xid_continue xid_continue_ranges goes_on name word_kind is_keyword keywords lib.Utf8.encode
words_of_units = (refl, (refl, (refl, (refl, (refl, tt)))))

pub primitive_words : Each IsWordy ("boolean" ∷ "byte" ∷ "short" ∷ "char" ∷ "int" ∷ "long" ∷ [])
unfolding token_kind is_clean is_utf8 chars front starts_name first_char is_start is_xid_start in_ranges xid_start_ranges is_part is_xid_continue xid_continue_ranges goes_on name word_kind is_keyword keywords lib.Utf8.encode
primitive_words = (refl, (refl, (refl, (refl, (refl, (refl, tt))))))

pub modifier_words : Each IsWordy ("public" ∷ "protected" ∷ "private" ∷ "abstract" ∷ "static" ∷ "final" ∷ "transient" ∷ "volatile" ∷ [])
unfolding token_kind is_clean is_utf8 chars front starts_name first_char is_start is_xid_start in_ranges xid_start_ranges is_part is_xid_continue xid_continue_ranges goes_on name word_kind is_keyword keywords lib.Utf8.encode
modifier_words = (refl, (refl, (refl, (refl, (refl, (refl, (refl, (refl, tt))))))))

-- what may follow a keyword, a name and a comment
pub keyword_may : (text : List ℕ) (b : ℕ) → Breaks b → may_follow kind.Keyword text b ≡ true
unfolding may_follow
keyword_may text b ok = ok

pub word_may : (text : List ℕ) (b : ℕ) → Breaks b → may_follow kind.Word text b ≡ true
unfolding may_follow
word_may text b ok = ok

abbrev pub keyword : (text : String) → token_kind (codes text) ≡ Some kind.Keyword → Phrase (Alone (IsKeyword text)) Breaks (codes text)
keyword text known = narrow (one_token kind.Keyword (codes text) known (λ start end. record { keyword = refl; written = refl })) (λ b ok. keyword_may (codes text) b ok)

abbrev pub this_word : Phrase (Alone (IsKeyword "this")) Breaks (codes "this")
this_word = keyword "this" words_of_expressions.0

abbrev pub super_word : Phrase (Alone (IsKeyword "super")) Breaks (codes "super")
super_word = keyword "super" words_of_expressions.1.0

abbrev pub new_word : Phrase (Alone (IsKeyword "new")) Breaks (codes "new")
new_word = keyword "new" words_of_expressions.1.1.0

abbrev pub instance_word : Phrase (Alone (IsKeyword "instanceof")) Breaks (codes "instanceof")
instance_word = keyword "instanceof" words_of_expressions.1.1.1.0

abbrev pub if_word : Phrase (Alone (IsKeyword "if")) Breaks (codes "if")
if_word = keyword "if" words_of_statements.0

abbrev pub else_word : Phrase (Alone (IsKeyword "else")) Breaks (codes "else")
else_word = keyword "else" words_of_statements.1.0

abbrev pub while_word : Phrase (Alone (IsKeyword "while")) Breaks (codes "while")
while_word = keyword "while" words_of_statements.1.1.0

abbrev pub for_word : Phrase (Alone (IsKeyword "for")) Breaks (codes "for")
for_word = keyword "for" words_of_statements.1.1.1.0

abbrev pub return_word : Phrase (Alone (IsKeyword "return")) Breaks (codes "return")
return_word = keyword "return" words_of_statements.1.1.1.1.0

abbrev pub throw_word : Phrase (Alone (IsKeyword "throw")) Breaks (codes "throw")
throw_word = keyword "throw" words_of_statements.1.1.1.1.1.0

abbrev pub break_word : Phrase (Alone (IsKeyword "break")) Breaks (codes "break")
break_word = keyword "break" words_of_statements.1.1.1.1.1.1.0

abbrev pub continue_word : Phrase (Alone (IsKeyword "continue")) Breaks (codes "continue")
continue_word = keyword "continue" words_of_statements.1.1.1.1.1.1.1.0

abbrev pub final_word : Phrase (Alone (IsKeyword "final")) Breaks (codes "final")
final_word = keyword "final" words_of_statements.1.1.1.1.1.1.1.1.0

abbrev pub package_word : Phrase (Alone (IsKeyword "package")) Breaks (codes "package")
package_word = keyword "package" words_of_units.0

abbrev pub import_word : Phrase (Alone (IsKeyword "import")) Breaks (codes "import")
import_word = keyword "import" words_of_units.1.0

abbrev pub class_word : Phrase (Alone (IsKeyword "class")) Breaks (codes "class")
class_word = keyword "class" words_of_units.1.1.0

abbrev pub extends_word : Phrase (Alone (IsKeyword "extends")) Breaks (codes "extends")
extends_word = keyword "extends" words_of_units.1.1.1.0

abbrev pub void_word : Phrase (Alone (IsKeyword "void")) Breaks (codes "void")
void_word = keyword "void" words_of_units.1.1.1.1.0
