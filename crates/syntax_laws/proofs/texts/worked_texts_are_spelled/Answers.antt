use Rattle.std.proofs.Common.{◌≡◌, [], ◌∷◌, false, Some, refl}
use Rattle.std.specs.Prelude.{Ok, Err, codes}
use Rattle.std.specs.Str.{chars}
use lib.Utf8.{encode}
use Rattle.unicode_ident.proofs.Computing.{unicode_ident}
use Rattle.token_trees.specs.Token.{site}
use Rattle.syntax_trees.specs.Syntax.{ty_path, ty_reference, path, no_qself, segments_of}
use Rattle.syntax_trees.specs.declared.cursor.SyntaxError.{SyntaxError}
use Rattle.syntax_trees.specs.Item.{predicate_ty, predicate_lifetime}
use Rattle.syntax_parsers.specs.Grammar.{output_body, path_body, trait_body, behind_body, qualified_body, expr_path_body, length_body, bracketed_body, reference_body, pointer_body, signature_body, function_body, some_bounds, path_ty, ty_body, tys_body, bound_body, bounds_body, arguments_body, segment_body, segments_body, generic_body, generics_body}
use Rattle.syntax_parsers.specs.Lifetimes.{SpellsLifetimes, lifetimes_of}
use Rattle.syntax_parsers.specs.Read.{levels}
use Rattle.syntax_parsers.specs.SpellingExamples.{a, b, t, bound}
use Rattle.syntax_parsers.specs.SpellingForm.{SpellsTy}
use Rattle.syntax_parsers.specs.Where.{some_predicates, predicates_body, predicate_body, lifetime_predicate, type_predicate, behind_predicate, some_lifetimes, lifetimes_body}
use Rattle.syntax_parsers.specs.Whole.{predicates_of, type_of}
use Rattle.syntax_parsers.specs.Worked.{name, sign, joint, plain, named, life}
use Rattle.syntax_laws.specs.Predicates.{SpellsPredicates}
use Rattle.syntax_laws.specs.TextExamples.{vector, two_predicates}
use Rattle.syntax_laws.proofs.PredicatesExact.{predicates_exact}
use Rattle.syntax_laws.proofs.TextsExact.{types_exact, lifetimes_exact}
use Rattle.syntax_laws.proofs.TextsWorked.{Has, has_tokens, text_spelled, text_unspelled}
use Rattle.syntax_laws.proofs.texts.worked_texts_are_spelled.Goals as goal

vector_text : Has (codes "Vec<A>") (name (codes "Vec") ∷ sign 60 ∷ name (codes "A") ∷ sign 62 ∷ [])
unfolding unicode_ident encode chars
vector_text = (refl, (3, refl, (1, refl, (1, refl, (1, refl, refl)))), (refl, (refl, (refl, (refl, tt)))))

vector_text_read : type_of site (name (codes "Vec") ∷ sign 60 ∷ name (codes "A") ∷ sign 62 ∷ []) ≡ Ok vector
unfolding predicates_of some_predicates predicates_body predicate_body lifetime_predicate type_predicate behind_predicate some_lifetimes lifetimes_body type_of levels output_body path_body trait_body behind_body qualified_body expr_path_body length_body bracketed_body reference_body pointer_body signature_body function_body some_bounds path_ty ty_body tys_body bound_body bounds_body arguments_body segment_body segments_body generic_body generics_body
vector_text_read = refl

reference_text : Has (codes " &'x  T ") (joint 38 ∷ joint 39 ∷ name (codes "x") ∷ name (codes "T") ∷ [])
unfolding unicode_ident encode chars
reference_text = (refl, (1, refl, (1, refl, (1, refl, (1, refl, refl)))), (refl, (refl, (refl, (refl, tt)))))

reference_text_read : type_of site (joint 38 ∷ joint 39 ∷ name (codes "x") ∷ name (codes "T") ∷ []) ≡ Ok (ty_reference (Some (life (codes "x"))) false (named t))
unfolding predicates_of some_predicates predicates_body predicate_body lifetime_predicate type_predicate behind_predicate some_lifetimes lifetimes_body type_of levels output_body path_body trait_body behind_body qualified_body expr_path_body length_body bracketed_body reference_body pointer_body signature_body function_body some_bounds path_ty ty_body tys_body bound_body bounds_body arguments_body segment_body segments_body generic_body generics_body
reference_text_read = refl

path_text : Has (codes "A::B") (name (codes "A") ∷ joint 58 ∷ sign 58 ∷ name (codes "B") ∷ [])
unfolding unicode_ident encode chars
path_text = (refl, (1, refl, (1, refl, (1, refl, (1, refl, refl)))), (refl, (refl, (refl, (refl, tt)))))

path_text_read : type_of site (name (codes "A") ∷ joint 58 ∷ sign 58 ∷ name (codes "B") ∷ []) ≡ Ok (ty_path no_qself (path false (segments_of (plain a ∷ plain b ∷ []))))
unfolding predicates_of some_predicates predicates_body predicate_body lifetime_predicate type_predicate behind_predicate some_lifetimes lifetimes_body type_of levels output_body path_body trait_body behind_body qualified_body expr_path_body length_body bracketed_body reference_body pointer_body signature_body function_body some_bounds path_ty ty_body tys_body bound_body bounds_body arguments_body segment_body segments_body generic_body generics_body
path_text_read = refl

colons_text : Has (codes "A: :B") (name (codes "A") ∷ sign 58 ∷ sign 58 ∷ name (codes "B") ∷ [])
unfolding unicode_ident encode chars
colons_text = (refl, (1, refl, (1, refl, (1, refl, (1, refl, refl)))), (refl, (refl, (refl, (refl, tt)))))

colons_text_refused : (e : SyntaxError) × (type_of site (name (codes "A") ∷ sign 58 ∷ sign 58 ∷ name (codes "B") ∷ []) ≡ Err e)
unfolding predicates_of some_predicates predicates_body predicate_body lifetime_predicate type_predicate behind_predicate some_lifetimes lifetimes_body type_of levels output_body path_body trait_body behind_body qualified_body expr_path_body length_body bracketed_body reference_body pointer_body signature_body function_body some_bounds path_ty ty_body tys_body bound_body bounds_body arguments_body segment_body segments_body generic_body generics_body
colons_text_refused = (_, refl)

angle_text : Has (codes "Vec<") (name (codes "Vec") ∷ sign 60 ∷ [])
unfolding unicode_ident encode chars
angle_text = (refl, (3, refl, (1, refl, refl)), (refl, (refl, tt)))

angle_text_refused : (e : SyntaxError) × (type_of site (name (codes "Vec") ∷ sign 60 ∷ []) ≡ Err e)
unfolding predicates_of some_predicates predicates_body predicate_body lifetime_predicate type_predicate behind_predicate some_lifetimes lifetimes_body type_of levels output_body path_body trait_body behind_body qualified_body expr_path_body length_body bracketed_body reference_body pointer_body signature_body function_body some_bounds path_ty ty_body tys_body bound_body bounds_body arguments_body segment_body segments_body generic_body generics_body
angle_text_refused = (_, refl)

two_text : Has (codes "A B") (name (codes "A") ∷ name (codes "B") ∷ [])
unfolding unicode_ident encode chars
two_text = (refl, (1, refl, (1, refl, refl)), (refl, (refl, tt)))

two_text_refused : (e : SyntaxError) × (type_of site (name (codes "A") ∷ name (codes "B") ∷ []) ≡ Err e)
unfolding predicates_of some_predicates predicates_body predicate_body lifetime_predicate type_predicate behind_predicate some_lifetimes lifetimes_body type_of levels output_body path_body trait_body behind_body qualified_body expr_path_body length_body bracketed_body reference_body pointer_body signature_body function_body some_bounds path_ty ty_body tys_body bound_body bounds_body arguments_body segment_body segments_body generic_body generics_body
two_text_refused = (_, refl)

no_text : Has [] []
unfolding unicode_ident encode chars
no_text = (refl, refl, tt)

no_text_refused : (e : SyntaxError) × (type_of site [] ≡ Err e)
unfolding predicates_of some_predicates predicates_body predicate_body lifetime_predicate type_predicate behind_predicate some_lifetimes lifetimes_body type_of levels output_body path_body trait_body behind_body qualified_body expr_path_body length_body bracketed_body reference_body pointer_body signature_body function_body some_bounds path_ty ty_body tys_body bound_body bounds_body arguments_body segment_body segments_body generic_body generics_body
no_text_refused = (_, refl)

predicates_text : Has (codes "T: A, 'x: 'y,") (name (codes "T") ∷ sign 58 ∷ name (codes "A") ∷ sign 44 ∷ joint 39 ∷ name (codes "x") ∷ sign 58 ∷ joint 39 ∷ name (codes "y") ∷ sign 44 ∷ [])
unfolding unicode_ident encode chars
predicates_text = (refl, (1, refl, (1, refl, (1, refl, (1, refl, (1, refl, (1, refl, (1, refl, (1, refl, (1, refl, (1, refl, refl)))))))))), (refl, (refl, (refl, (refl, (refl, (refl, (refl, (refl, (refl, (refl, tt)))))))))))

predicates_text_read : predicates_of site (name (codes "T") ∷ sign 58 ∷ name (codes "A") ∷ sign 44 ∷ joint 39 ∷ name (codes "x") ∷ sign 58 ∷ joint 39 ∷ name (codes "y") ∷ sign 44 ∷ []) ≡ Ok (predicate_ty (named t) (bound a ∷ []) ∷ predicate_lifetime (life (codes "x")) (life (codes "y") ∷ []) ∷ [])
unfolding predicates_of some_predicates predicates_body predicate_body lifetime_predicate type_predicate behind_predicate some_lifetimes lifetimes_body type_of levels output_body path_body trait_body behind_body qualified_body expr_path_body length_body bracketed_body reference_body pointer_body signature_body function_body some_bounds path_ty ty_body tys_body bound_body bounds_body arguments_body segment_body segments_body generic_body generics_body
predicates_text_read = refl

no_predicates_read : predicates_of site [] ≡ Ok []
unfolding predicates_of some_predicates predicates_body predicate_body lifetime_predicate type_predicate behind_predicate some_lifetimes lifetimes_body type_of levels output_body path_body trait_body behind_body qualified_body expr_path_body length_body bracketed_body reference_body pointer_body signature_body function_body some_bounds path_ty ty_body tys_body bound_body bounds_body arguments_body segment_body segments_body generic_body generics_body
no_predicates_read = refl

lifetimes_text : Has (codes "'x + 'y") (joint 39 ∷ name (codes "x") ∷ sign 43 ∷ joint 39 ∷ name (codes "y") ∷ [])
unfolding unicode_ident encode chars
lifetimes_text = (refl, (1, refl, (1, refl, (1, refl, (1, refl, (1, refl, refl))))), (refl, (refl, (refl, (refl, (refl, tt))))))

printed_text : Has (codes "Vec < A >") (name (codes "Vec") ∷ sign 60 ∷ name (codes "A") ∷ sign 62 ∷ [])
unfolding unicode_ident encode chars
printed_text = (refl, (3, refl, (1, refl, (1, refl, (1, refl, refl)))), (refl, (refl, (refl, (refl, tt)))))

predicates_printed_text : Has (codes "Vec < A > : A , 'x : 'y") (name (codes "Vec") ∷ sign 60 ∷ name (codes "A") ∷ sign 62 ∷ sign 58 ∷ name (codes "A") ∷ sign 44 ∷ joint 39 ∷ name (codes "x") ∷ sign 58 ∷ joint 39 ∷ name (codes "y") ∷ [])
unfolding unicode_ident encode chars
predicates_printed_text = (refl, (3, refl, (1, refl, (1, refl, (1, refl, (1, refl, (1, refl, (1, refl, (1, refl, (1, refl, (1, refl, (1, refl, (1, refl, refl)))))))))))), (refl, (refl, (refl, (refl, (refl, (refl, (refl, (refl, (refl, (refl, (refl, (refl, tt)))))))))))))

two_predicates_read : predicates_of site (name (codes "Vec") ∷ sign 60 ∷ name (codes "A") ∷ sign 62 ∷ sign 58 ∷ name (codes "A") ∷ sign 44 ∷ joint 39 ∷ name (codes "x") ∷ sign 58 ∷ joint 39 ∷ name (codes "y") ∷ []) ≡ Ok two_predicates
unfolding predicates_of some_predicates predicates_body predicate_body lifetime_predicate type_predicate behind_predicate some_lifetimes lifetimes_body type_of levels output_body path_body trait_body behind_body qualified_body expr_path_body length_body bracketed_body reference_body pointer_body signature_body function_body some_bounds path_ty ty_body tys_body bound_body bounds_body arguments_body segment_body segments_body generic_body generics_body
two_predicates_read = refl

pub returns : goal.returns
unfolding encode
returns c = (
  text_spelled type_of SpellsTy types_exact (codes "Vec<A>") (name (codes "Vec") ∷ sign 60 ∷ name (codes "A") ∷ sign 62 ∷ []) vector vector_text vector_text_read,
  text_spelled type_of SpellsTy types_exact (codes " &'x  T ") (joint 38 ∷ joint 39 ∷ name (codes "x") ∷ name (codes "T") ∷ []) (ty_reference (Some (life (codes "x"))) false (named t)) reference_text reference_text_read,
  text_spelled type_of SpellsTy types_exact (codes "A::B") (name (codes "A") ∷ joint 58 ∷ sign 58 ∷ name (codes "B") ∷ []) (ty_path no_qself (path false (segments_of (plain a ∷ plain b ∷ [])))) path_text path_text_read,
  text_unspelled type_of SpellsTy types_exact (codes "A: :B") (name (codes "A") ∷ sign 58 ∷ sign 58 ∷ name (codes "B") ∷ []) colons_text_refused.0 colons_text colons_text_refused.1,
  text_unspelled type_of SpellsTy types_exact (codes "Vec<") (name (codes "Vec") ∷ sign 60 ∷ []) angle_text_refused.0 angle_text angle_text_refused.1,
  text_unspelled type_of SpellsTy types_exact (codes "A B") (name (codes "A") ∷ name (codes "B") ∷ []) two_text_refused.0 two_text two_text_refused.1,
  text_unspelled type_of SpellsTy types_exact [] [] no_text_refused.0 no_text no_text_refused.1,
  text_spelled predicates_of SpellsPredicates predicates_exact (codes "T: A, 'x: 'y,") (name (codes "T") ∷ sign 58 ∷ name (codes "A") ∷ sign 44 ∷ joint 39 ∷ name (codes "x") ∷ sign 58 ∷ joint 39 ∷ name (codes "y") ∷ sign 44 ∷ []) (predicate_ty (named t) (bound a ∷ []) ∷ predicate_lifetime (life (codes "x")) (life (codes "y") ∷ []) ∷ []) predicates_text predicates_text_read,
  text_spelled predicates_of SpellsPredicates predicates_exact [] [] [] no_text no_predicates_read,
  text_spelled (λ _. lifetimes_of) SpellsLifetimes lifetimes_exact (codes "'x + 'y") (joint 39 ∷ name (codes "x") ∷ sign 43 ∷ joint 39 ∷ name (codes "y") ∷ []) (life (codes "x") ∷ life (codes "y") ∷ []) lifetimes_text refl,
  refl,
  ((types_exact site (name (codes "Vec") ∷ sign 60 ∷ name (codes "A") ∷ sign 62 ∷ []) vector).0 vector_text_read).0,
  (codes "Vec < A >", site, (codes "Vec < A >", (refl, refl)), has_tokens (codes "Vec < A >") _ printed_text),
  refl,
  ((predicates_exact site (name (codes "Vec") ∷ sign 60 ∷ name (codes "A") ∷ sign 62 ∷ sign 58 ∷ name (codes "A") ∷ sign 44 ∷ joint 39 ∷ name (codes "x") ∷ sign 58 ∷ joint 39 ∷ name (codes "y") ∷ []) two_predicates).0 two_predicates_read).0,
  (codes "Vec < A > : A , 'x : 'y", site, (codes "Vec < A > : A , 'x : 'y", (refl, refl)), has_tokens (codes "Vec < A > : A , 'x : 'y") _ predicates_printed_text),
  refl,
  (codes "'x + 'y", site, (codes "'x + 'y", (refl, refl)), has_tokens (codes "'x + 'y") _ lifetimes_text),
)
