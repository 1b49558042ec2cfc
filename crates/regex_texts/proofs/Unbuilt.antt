-- Which source isn't built.
use Rattle.std.proofs.Common.{◌≡◌, ◌∙◌, sym, ap, ℕ, suc, ◌<◌, List, ◌∷◌, Bool, length, map, get_or, refl, arith, string_bytes}
use Rattle.std.proofs.lemmas.List.{get_or-map, length-map}
use Rattle.regex.specs.Strings.{IsDefaultFailure}
use Rattle.regex.specs.declared.error.Error.{Error}
use Rattle.plain_patterns.specs.declared.searches.Look.{Look}
use Rattle.plain_patterns.specs.Ends.{look_seen}
use Rattle.regex_texts.specs.Refused.{IsUnbuilt, beside_sources}

pub own_unbuilt : (own : List ℕ) (rest : List (List ℕ)) (error : Error) → IsDefaultFailure own error → IsUnbuilt (own ∷ rest) error
own_unbuilt own rest error h = (own, (0, omega arith, refl), h)

pub beside_unbuilt : (own : List ℕ) (rest : List (List ℕ)) (error : Error) → IsUnbuilt rest error → IsUnbuilt (own ∷ rest) error
beside_unbuilt own rest error u = (u.0, (suc u.1.0, omega (arith, u.1.1), u.1.2), u.2)

abbrev first : List ℕ × Bool → List ℕ
first l = l.0

pub look_unbuilt : (looks : List Look) (i : ℕ) (d : Look) (source : List ℕ) (error : Error) → i < length looks → source ≡ string_bytes (get_or looks i d).source → IsDefaultFailure source error
    → IsUnbuilt (beside_sources (map look_seen looks)) error
look_unbuilt looks i d source error lt e h =
    let shorter : i < length (map look_seen looks) = omega (arith, length-map looks look_seen, lt) in (
      source,
      (
        i,
        omega (arith, length-map (map look_seen looks) first, shorter),
        get_or-map first (map look_seen looks) i (look_seen d) source shorter ∙ ap first (get_or-map look_seen looks i d (look_seen d) lt) ∙ sym e,
      ),
      h,
    )
