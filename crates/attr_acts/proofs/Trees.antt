-- What a text is read as, and what is told of it.
use Rattle.std.proofs.Common.{◌≡◌, List, [], ◌∷◌, ◌++◌, Some, None, ap, sym, ◌∙◌, append-nil, inl, inr, subst}
use Rattle.std.specs.Prelude.{Result, Ok, Err}
use Rattle.syntax_trees.specs.Syntax.{LitStrD}
use Rattle.syntax_trees.specs.Item.{PredicateD}
use Rattle.syntax_trees.specs.declared.cursor.SyntaxError.{SyntaxError}
use Rattle.syntax_parsers.specs.declared.fault.ParseFault.{ParseFault}
use Rattle.syntax_parsers.specs.declared.fault.ParseFault.TheVariants.{Syntax}
use Rattle.syntax_parsers.specs.Whole.{predicates_of}
use Rattle.syntax_texts.specs.Texts.{WholeReader, ReadsText, IsFaultOf}
use Rattle.attr_parts.specs.Diagnostics.{KindD, bad_syntax}
use Rattle.attr_defs.specs.Acts.{ActD, tells}
use Rattle.attr_defs.specs.Texts.{lexed, read_text, parsed, parsed_by, predicates_by, predicates_in}
use Rattle.attr_defs.proofs.Lexed.{read_same, read_none}
use Rattle.attr_acts.specs.Does.{Does}

-- what a parser refuses is no tree
pub read_fault : {A : Type 0} → (read : WholeReader A) (l : LitStrD) (e : SyntaxError) → IsFaultOf read l (Syntax e) → read_text lexed read l ≡ Err e
read_fault read l e (inl h) = read_same read l (Err e) h
read_fault read l e (inr h) = read_none read l h.0 ∙ ap Err (sym h.1)

-- what is read of a literal's copy is read of the literal
pub copy_read : {A : Type 0} → (read : WholeReader A) (l m : LitStrD) (r : Result A SyntaxError) → l ≡ m → ReadsText read l r → read_text lexed read m ≡ r
copy_read read l m r e h = ap (read_text lexed read) (sym e) ∙ read_same read l r h

pub copy_fault : {A : Type 0} → (read : WholeReader A) (l m : LitStrD) (f : ParseFault) (e : SyntaxError) → l ≡ m → IsFaultOf read l f → f ≡ Syntax e → read_text lexed read m ≡ Err e
copy_fault {A} read l m f e k h s =
    let P : ParseFault → Type 0 = λ x. IsFaultOf read l x in
    ap (read_text lexed read) (sym k) ∙ read_fault read l e (subst P s h)

pub parsed_ok : {A : Type 0} → (old new : List ActD) (read : WholeReader A) (bad : LitStrD → KindD) (l : LitStrD) (x : A) → new ≡ old → read_text lexed read l ≡ Ok x → Does old new (Some (Some x)) (parsed lexed read bad (Some l))
parsed_ok old new read bad l x e h = record {
  acts = e ∙ sym (append-nil old) ∙ ap (λ r. old ++ (parsed_by (bad l) l.span r).acts) (sym h);
  answer = ap (λ r. (parsed_by (bad l) l.span r).value) (sym h);
}

pub parsed_bad : {A : Type 0} → (old new : List ActD) (read : WholeReader A) (bad : LitStrD → KindD) (l : LitStrD) (e : SyntaxError) → new ≡ old ++ tells (record { kind = bad l; span = l.span }) ∷ [] → read_text lexed read l ≡ Err e → Does old new (Some None) (parsed lexed read bad (Some l))
parsed_bad old new read bad l e n h = record {
  acts = n ∙ ap (λ r. old ++ (parsed_by (bad l) l.span r).acts) (sym h);
  answer = ap (λ r. (parsed_by (bad l) l.span r).value) (sym h);
}

pub predicates_ok : (old new : List ActD) (l : LitStrD) (ps : List PredicateD) → new ≡ old → read_text lexed predicates_of l ≡ Ok ps → Does old new (Some (Some ps)) (predicates_in lexed (Some l))
predicates_ok old new l ps e h = record {
  acts = e ∙ sym (append-nil old) ∙ ap (λ r. old ++ (predicates_by l r).acts) (sym h);
  answer = ap (λ r. (predicates_by l r).value) (sym h);
}

pub predicates_bad : (old new : List ActD) (l : LitStrD) (e : SyntaxError) → new ≡ old ++ tells (record { kind = bad_syntax e.kind; span = l.span }) ∷ [] → read_text lexed predicates_of l ≡ Err e → Does old new (Some (Some [])) (predicates_in lexed (Some l))
predicates_bad old new l e n h = record {
  acts = n ∙ ap (λ r. old ++ (predicates_by l r).acts) (sym h);
  answer = ap (λ r. (predicates_by l r).value) (sym h);
}
