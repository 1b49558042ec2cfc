use Rattle.std.proofs.Common.{◌≡◌, [], ◌∷◌, refl}
use Rattle.std.specs.Prelude.{codes}
use Rattle.std.specs.Str.{chars}
use Rattle.unicode_ident.proofs.Computing.{unicode_ident}
use Rattle.token_trees.specs.declared.token.Spacing.TheVariants.{Alone, Joint}
use Rattle.token_trees.specs.Token.{word, mark, fixed, digits, site}
use Rattle.token_trees.specs.Text.{name, sign, constant}
use Rattle.rust_tokens.proofs.Readings.{same_front}
use Rattle.syntax_laws.specs.RoundTrip.{AreOfText}
use Rattle.syntax_laws.proofs.Placing.{text_lexed}
use Rattle.printing_laws.proofs.Written.{from_codes}
use Rattle.printing_laws.proofs.examples.parts_examples.Goals as goal
use lib.Utf8.{encode}

type_a : AreOfText (word (codes "A") site ∷ [])
unfolding unicode_ident encode
type_a = from_codes (word (codes "A") site ∷ []) (codes "A") refl (1, refl, refl) (refl, tt)

type_vec : AreOfText (word (codes "Vec") site ∷ [])
unfolding unicode_ident encode
type_vec = from_codes (word (codes "Vec") site ∷ []) (codes "Vec") refl (3, refl, refl) (refl, tt)

name_x : AreOfText (word (codes "x") site ∷ [])
unfolding unicode_ident encode
name_x = from_codes (word (codes "x") site ∷ []) (codes "x") refl (1, refl, refl) (refl, tt)

name_y : AreOfText (word (codes "y") site ∷ [])
unfolding unicode_ident encode
name_y = from_codes (word (codes "y") site ∷ []) (codes "y") refl (1, refl, refl) (refl, tt)

three : AreOfText (fixed (digits (codes "3")) site ∷ [])
unfolding unicode_ident encode
three = from_codes (fixed (digits (codes "3")) site ∷ []) (codes "3") refl (1, refl, refl) (refl, tt)

no_two_words : AreOfText (word (codes "a b") site ∷ []) → ⊥
unfolding unicode_ident encode chars
no_two_words h =
    let r = (text_lexed (word (codes "a b") site ∷ []) site h).read in
    let e : name (codes "a") ≡ name (codes "a b") = (same_front (name (codes "a"), 1) (name (codes "a b"), r.0) r.1).0 in
    cc

no_number : AreOfText (word (codes "1a") site ∷ []) → ⊥
unfolding unicode_ident encode chars
no_number h =
    let r = (text_lexed (word (codes "1a") site ∷ []) site h).read in
    let e : constant (digits (codes "1a")) ≡ name (codes "1a") = (same_front (constant (digits (codes "1a")), 2) (name (codes "1a"), r.0) r.1).0 in
    cc

no_joint_end : AreOfText (mark 43 Joint site ∷ []) → ⊥
unfolding unicode_ident encode chars
no_joint_end h =
    let r = (text_lexed (mark 43 Joint site ∷ []) site h).read in
    let e : sign 43 Alone ≡ sign 43 Joint = (same_front (sign 43 Alone, 1) (sign 43 Joint, r.0) r.1).0 in
    cc

pub returns : goal.returns
returns c = record {
  generic = (tt, ((type_vec, ((tt, ((type_a, tt), tt)), tt)), tt));
  predicates = (((tt, ((type_vec, ((tt, ((type_a, tt), tt)), tt)), tt)), (((type_a, tt), tt), tt)), ((name_x, (name_y, tt)), tt));
  lifetimes = (name_x, (name_y, tt));
  array = ((tt, ((type_a, tt), tt)), three);
  two_words = no_two_words;
  number = no_number;
  joint_end = no_joint_end;
}
