-- Members and source files that are what they look like, a token list and its tree each.
use Rattle.std.proofs.Common.{[], ◌∷◌, codes, Some, None, true, false, refl, lit≤, rules}
use Rattle.jav_tree.specs.declared.types.TypeName.TheVariants as ty
use Rattle.jav_tree.specs.declared.stmt.StmtNode.TheVariants as stmt
use Rattle.jav_tree.specs.declared.unit.Member.TheVariants as member
use Rattle.jav_tree.specs.Blocks.{block_of}
use Rattle.jav_tree.specs.Tokens as token
use Rattle.jav_tree.specs.Types as type
use Rattle.jav_tree.specs.Words as words
use Rattle.jav_tree.specs.Expressions as is
use Rattle.jav_tree.specs.Statements as st
use Rattle.jav_tree.specs.Members.{Declared}
use Rattle.jav_tree.specs.Members as mem
use Rattle.jav_tree.specs.Units.{SourceFile}
use Rattle.jav_tree.specs.Units as unit
use Rattle.std.proofs.lemmas.List.Sorted.{IsPermutation-refl}
use Rattle.jav_tree.proofs.Spelled.{sym, key, word, lit, note, symbol, keyword, named, comment, int_at, class_at, num, is_num}

-- `/*c*/ final private int x = 1, y;`: two fields; the comment stands with the first, and the words in their printed order
two_fields : Declared 255 None 1
    (member.Field (record { front = codes "/*c*/" ∷ []; at = 6; words = codes "private" ∷ codes "final" ∷ []; ty = ty.Prim (codes "int"); name = codes "x"; init = Some (num 28 "1") })
    ∷ member.Field (record { front = []; at = 31; words = codes "private" ∷ codes "final" ∷ []; ty = ty.Prim (codes "int"); name = codes "y"; init = None }) ∷ [])
    (note "/*c*/" 0 ∷ key "final" 6 ∷ key "private" 12 ∷ key "int" 20 ∷ word "x" 24 ∷ sym "=" 26 ∷ lit "1" 28 ∷ sym "," 29 ∷ word "y" 31 ∷ sym ";" 32 ∷ [])
two_fields = mem.field (token.comment (comment "/*c*/" 0) token.none) (words.keyword refl refl (words.keyword refl refl words.none))
    (record { known = refl; once = refl; one_access = refl }) (type.whole (int_at 20) type.none (lit≤ tt))
    (st.more (st.valued (named "x" 24) (symbol "=" 26) (is.value (is_num "1" 28))) (symbol "," 29) (st.last (st.alone (named "y" 31)))) (symbol ";" 32)

-- `@Override public static int f(final int a, C b) /*c*/ { }`: `static` is kept apart, and `final` before a parameter is not kept
method : Declared 255 None 1
    (member.Method (record {
      front = [];
      at = 0;
      words = codes "@Override" ∷ codes "public" ∷ [];
      is_static = true;
      result = ty.Prim (codes "int");
      name = codes "f";
      params = record { ty = ty.Prim (codes "int"); name = codes "a" } ∷ record { ty = ty.Named (codes "C"); name = codes "b" } ∷ [];
      block = Some (block_of [] (codes "/*c*/" ∷ []));
    }) ∷ [])
    (sym "@" 0 ∷ word "Override" 1 ∷ key "public" 10 ∷ key "static" 17 ∷ key "int" 24 ∷ word "f" 28 ∷ sym "(" 29 ∷ key "final" 30 ∷ key "int" 36 ∷ word "a" 40
    ∷ sym "," 41 ∷ word "C" 43 ∷ word "b" 45 ∷ sym ")" 46 ∷ note "/*c*/" 48 ∷ sym "{" 54 ∷ sym "}" 56 ∷ [])
method = mem.method token.none (words.override (symbol "@" 0) (named "Override" 1) refl (words.keyword refl refl (words.keyword refl refl words.none)))
    (record { known = refl; once = refl; one_access = refl }) (mem.type (type.whole (int_at 24) type.none (lit≤ tt))) (named "f" 28)
    (mem.some (symbol "(" 29) (mem.more (mem.parameter (st.yes (keyword "final" 30)) (type.whole (int_at 36) type.none (lit≤ tt)) (named "a" 40)) (symbol "," 41)
    (mem.last (mem.parameter st.no (type.whole (class_at "C" 43) type.none (lit≤ tt)) (named "b" 45)))) (symbol ")" 46) (lit≤ tt))
    (token.comment (comment "/*c*/" 48) token.none) (st.braced (symbol "{" 54) st.no_statements token.none (symbol "}" 56))

-- `abstract void f();`
abstract_one : Declared 255 None 0
    (member.Method (record { front = []; at = 0; words = []; is_static = false; result = ty.Void; name = codes "f"; params = []; block = None }) ∷ [])
    (key "abstract" 0 ∷ key "void" 9 ∷ word "f" 14 ∷ sym "(" 15 ∷ sym ")" 16 ∷ sym ";" 17 ∷ [])
abstract_one = mem.abstract_method token.none (words.keyword refl refl words.none) (record { known = refl; once = refl; one_access = refl }, refl)
    (mem.void (keyword "void" 9)) (named "f" 14) (mem.none (symbol "(" 15) (symbol ")" 16)) (symbol ";" 17)

-- `C() { super(); ; }`, in the class C
constructor_of_class : Declared 255 (Some (codes "C")) 2
    (member.Ctor (record { front = []; at = 0; words = []; params = []; block = block_of (st.stmt_at 6 (stmt.SuperInit []) ∷ st.stmt_at 15 stmt.Empty ∷ []) [] }) ∷ [])
    (word "C" 0 ∷ sym "(" 1 ∷ sym ")" 2 ∷ sym "{" 4 ∷ key "super" 6 ∷ sym "(" 11 ∷ sym ")" 12 ∷ sym ";" 13 ∷ sym ";" 15 ∷ sym "}" 17 ∷ [])
constructor_of_class = mem.constructor_of token.none words.none (record { known = refl; once = refl; one_access = refl }) (named "C" 0) refl
    (mem.none (symbol "(" 1) (symbol ")" 2)) token.none
    (st.super_first (symbol "{" 4) token.none (st.super_start (keyword "super" 6) (is.no_arguments (symbol "(" 11) (symbol ")" 12)) (symbol ";" 13))
    (st.more_statements token.none (st.single_plain (st.nothing (symbol ";" 15))) st.no_statements) token.none (symbol "}" 17))

-- A source file with a comment in each place where one may stand outside its member:
-- `/*h*/ package k; /*a*/ import k.B; /*b*/ public class C extends B { int x; /*t*/ } /*u*/`
whole_file : SourceFile 255 0
    (record {
      head = codes "/*h*/" ∷ [];
      «package» = codes "k";
      imports = codes "k.B" ∷ [];
      class = record {
        front = codes "/*a*/" ∷ codes "/*b*/" ∷ [];
        words = codes "public" ∷ [];
        name = codes "C";
        parent = Some (ty.Named (codes "B"));
        members = member.Field (record { front = []; at = 70; words = []; ty = ty.Prim (codes "int"); name = codes "x"; init = None }) ∷ [];
        tail = codes "/*t*/" ∷ codes "/*u*/" ∷ [];
      };
    })
    (note "/*h*/" 0 ∷ key "package" 6 ∷ word "k" 14 ∷ sym ";" 15 ∷ note "/*a*/" 17 ∷ key "import" 23 ∷ word "k" 30 ∷ sym "." 31 ∷ word "B" 32 ∷ sym ";" 33 ∷ note "/*b*/" 35
    ∷ key "public" 41 ∷ key "class" 48 ∷ word "C" 54 ∷ key "extends" 56 ∷ word "B" 64 ∷ sym "{" 66 ∷ key "int" 70 ∷ word "x" 74 ∷ sym ";" 75 ∷ note "/*t*/" 77
    ∷ sym "}" 83 ∷ note "/*u*/" 85 ∷ [])
whole_file = unit.source (token.comment (comment "/*h*/" 0) token.none) (keyword "package" 6) (unit.named (type.name (named "k" 14)) (symbol ";" 15))
    (token.comment (comment "/*a*/" 17) token.none)
    (unit.import (keyword "import" 23) (unit.named (type.dotted (type.name (named "k" 30)) (symbol "." 31) (named "B" 32)) (symbol ";" 33))
    (token.comment (comment "/*b*/" 35) token.none) unit.none)
    (record { same_names = IsPermutation-refl _; ascending = search rules })
    (words.keyword refl refl words.none) (record { known = refl; once = refl; one_access = refl }) (keyword "class" 48) (named "C" 54)
    (unit.extends (keyword "extends" 56) (type.name (named "B" 64))) (symbol "{" 66)
    (mem.more (mem.field token.none words.none (record { known = refl; once = refl; one_access = refl }) (type.whole (int_at 70) type.none (lit≤ tt))
    (st.last (st.alone (named "x" 74))) (symbol ";" 75)) mem.none)
    (token.comment (comment "/*t*/" 77) token.none) (symbol "}" 83) (token.comment (comment "/*u*/" 85) token.none)
