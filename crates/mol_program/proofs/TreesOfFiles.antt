-- Files and the trees that they are the sources of.
use Rattle.std.proofs.Common.{◌≡◌, ℕ, zero, suc, ◌+◌, ◌<◌, List, [], ◌∷◌, ◌++◌, length, take, drop, get_or, slice_get, arith}
use Rattle.std.proofs.Common.{Some, refl, sym, ◌∙◌, ap, subst}
use Rattle.std.specs.List.{All}
use Rattle.std.proofs.lemmas.List.{drop_more, take-append-drop}
use Rattle.std.proofs.lemmas.Option.{same_Some}
use Rattle.mol_base.specs.declared.file.File.{File as Source}
use Rattle.mol_resolve_laws.proofs.EntitiesPlain.{entities_plain}
use Rattle.mol_resolve_laws.specs.Laws.{IsTree}
use Rattle.mol_base.specs.Files.{ArePathsApart, FilePair, file_pair, file_pairs}
use Rattle.mol_program.specs.SourceTexts.{text_of}
use Rattle.mol_program.specs.Programs.{AreParsed, IsSourceFile}
use Rattle.mol_resolve_rules.specs.Files.{File, Files, HasFile}
use Rattle.mol_resolve_rules.specs.ReadAs.{IsParsed}
use Rattle.mol_resolve_rules.specs.ResolveFaults.{HavePathsApart}

-- one of many files, with those before and after it
pub split-at : (files : List Source) (i : ℕ) (file : Source) → i < length files → file ≡ get_or files i file
    → file_pairs files ≡ file_pairs (take i files) ++ file_pair file ∷ file_pairs (drop (i + 1) files)
split-at files i file within is = ap file_pairs parts ∙ pairs (take i files) where
  parts : files ≡ take i files ++ file ∷ drop (i + 1) files
  parts = sym (take-append-drop i files)
      ∙ ap (λ rest. take i files ++ rest) (drop_more files i file within ∙ ap (λ first. first ∷ drop (i + 1) files) (sym is))

  pairs : (before : List Source) → file_pairs (before ++ file ∷ drop (i + 1) files)
      ≡ file_pairs before ++ file_pair file ∷ file_pairs (drop (i + 1) files)
  pairs [] = refl
  pairs (first ∷ before) = ap (λ rest. file_pair first ∷ rest) (pairs before)

-- one more file with its tree
pub parsed-push : (files : List FilePair) (trees : Files) (file : FilePair) (tree : File) → AreParsed files trees
    → IsParsed (text_of file) tree → AreParsed (files ++ file ∷ []) (trees ++ tree ∷ [])
parsed-push [] [] file tree are is = (is, tt)
parsed-push [] (t ∷ trees) file tree are is = absurd are
parsed-push (f ∷ files) [] file tree are is = absurd are
parsed-push (f ∷ files) (t ∷ trees) file tree are is = (are.0, parsed-push files trees file tree are.1 is)

-- each file is a source
pub sources-of : (files : List FilePair) (trees : Files) → AreParsed files trees → All IsSourceFile files
sources-of [] trees are k d within = absurd (omega (arith, within))
sources-of (f ∷ files) [] are k d within = absurd are
sources-of (f ∷ files) (t ∷ trees) are zero d within = record { tree = t; parsed = are.0 }
sources-of (f ∷ files) (t ∷ trees) are (suc k) d within = sources-of files trees are.1 k d (omega (arith, within))

-- each tree is one of the grammar
pub trees-are : (files : List FilePair) (trees : Files) → AreParsed files trees → All IsTree trees
trees-are files [] are k d within = absurd (omega (arith, within))
trees-are [] (t ∷ trees) are k d within = absurd are
trees-are (f ∷ files) (t ∷ trees) are zero d within = entities_plain.trees (text_of f) t are.0
trees-are (f ∷ files) (t ∷ trees) are (suc k) d within = trees-are files trees are.1 k d (omega (arith, within))

-- the file of a tree
pub file-of : (files : List FilePair) (trees : Files) (number : ℕ) (tree : File) → AreParsed files trees → HasFile trees number tree
    → (file : FilePair) × (slice_get files number ≡ Some file) × IsParsed (text_of file) tree
file-of files [] number tree are at = absurd cc
file-of [] (t ∷ trees) number tree are at = absurd are
file-of (f ∷ files) (t ∷ trees) zero tree are at = (f, refl, subst (IsParsed (text_of f)) (same_Some t tree at) are.0)
file-of (f ∷ files) (t ∷ trees) (suc number) tree are at = file-of files trees number tree are.1 at

-- the trees have paths apart, as the files have
pub trees-apart : (files : List FilePair) (trees : Files) → ArePathsApart files → AreParsed files trees → HavePathsApart trees
trees-apart files trees apart are number second tree other at other_at same =
    let f = file-of files trees number tree are at in
    let o = file-of files trees second other are other_at in
    apart number second f.0 o.0 f.1 o.1 (sym f.2.path ∙ same ∙ o.2.path)
