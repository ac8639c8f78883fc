-- The written words of a type are in the form.
use Rattle.std.proofs.Common.{◌≡◌, ℕ, List, [], ◌∷◌, codes, ap, subst, sym, ◌∙◌}
use Rattle.mol_base.specs.Identity.{spelled_id}
use Rattle.mol_base.specs.declared.ident.Id.{Id}
use Rattle.mol_values_types.specs.declared.itype.IType.{IType}
use Rattle.mol_values_types.specs.declared.itype.IType.TheFolds.{fold-roll-IType}
use Rattle.mol_values_types.specs.declared.itype.IType.TheOpen.{IType-F}
use Rattle.mol_values_types.specs.declared.itype.IType.TheVariants as types
use Rattle.mol_log_words.specs.Words.{Word}
use Rattle.mol_log_words.specs.Types.{IsType, boolean, byte, short, char, int, long, void, class, imported, written, array}
use Rattle.mol_log_words.specs.TypeWords.{type_words, type_step}
use Rattle.mol_log_words.specs.declared.type_role.TypeRole.{TypeRole}
use Rattle.mol_log_words.proofs.Single.{id_again}

words_boolean : type_words types.Boolean ≡ codes "boolean" ∷ []
words_boolean = ap type_words (sym types.rolls-Boolean)
    ∙ fold-roll-IType (List Word) type_step IType-F.Boolean

words_byte : type_words types.Byte ≡ codes "byte" ∷ []
words_byte = ap type_words (sym types.rolls-Byte)
    ∙ fold-roll-IType (List Word) type_step IType-F.Byte

words_short : type_words types.Short ≡ codes "short" ∷ []
words_short = ap type_words (sym types.rolls-Short)
    ∙ fold-roll-IType (List Word) type_step IType-F.Short

words_char : type_words types.Char ≡ codes "char" ∷ []
words_char = ap type_words (sym types.rolls-Char)
    ∙ fold-roll-IType (List Word) type_step IType-F.Char

words_int : type_words types.Int ≡ codes "int" ∷ []
words_int = ap type_words (sym types.rolls-Int)
    ∙ fold-roll-IType (List Word) type_step IType-F.Int

words_long : type_words types.Long ≡ codes "long" ∷ []
words_long = ap type_words (sym types.rolls-Long)
    ∙ fold-roll-IType (List Word) type_step IType-F.Long

words_void : type_words types.Void ≡ codes "void" ∷ []
words_void = ap type_words (sym types.rolls-Void)
    ∙ fold-roll-IType (List Word) type_step IType-F.Void

words_class : (id : Id) → type_words (types.Class id) ≡ codes "class" ∷ spelled_id id ∷ []
words_class id = ap type_words (sym (types.rolls-Class id))
    ∙ fold-roll-IType (List Word) type_step (IType-F.Class id)

words_imported : (full rest : Word) → type_words (types.Imported full rest) ≡ codes "imported" ∷ full ∷ rest ∷ []
words_imported full rest = ap type_words (sym (types.rolls-Imported full rest))
    ∙ fold-roll-IType (List Word) type_step (IType-F.Imported full rest)

words_written : (name : Word) → type_words (types.Written name) ≡ codes "written" ∷ name ∷ []
words_written name = ap type_words (sym (types.rolls-Written name))
    ∙ fold-roll-IType (List Word) type_step (IType-F.Written name)

words_array : (t : IType) → type_words (types.Array t) ≡ codes "array" ∷ type_words t
words_array t = ap type_words (sym (types.rolls-Array t))
    ∙ fold-roll-IType (List Word) type_step (IType-F.Array t)

pub written_type : {r : TypeRole} {k : ℕ} {t : IType} {ts : List Word} → IsType r k t ts → IsType r k t (type_words t)
written_type (boolean a) = rw words_boolean (boolean a)
written_type (byte a) = rw words_byte (byte a)
written_type (short a) = rw words_short (short a)
written_type (char a) = rw words_char (char a)
written_type (int a) = rw words_int (int a)
written_type (long a) = rw words_long (long a)
written_type (void a) = rw words_void (void a)
written_type (class {id = id} {w = w} a i) = rw words_class (class a (id_again w id i))
written_type (imported a p q) = rw words_imported (imported a p q)
written_type (written a p) = rw words_written (written a p)
written_type (array a x) = rw words_array (array a (written_type x))

pub form_of : (t : IType) (words : List Word) → words ≡ type_words t → (r : TypeRole) (k : ℕ) (ts : List Word) → IsType r k t ts
    → IsType r k t words
form_of t words e r k ts h = subst (λ ws. IsType r k t ws) (sym e) (written_type h)
