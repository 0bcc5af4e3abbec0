-- What fold carries is the checksum of the elements behind it.
use Rattle.std.proofs.Common.{◌≡◌, ◌+◌, ◌*◌, ◌%◌, ℕ, List, [], ◌∷◌, ◌++◌, map, subst, refl, rules}
use Rattle.std.proofs.lemmas.Fn.{fold_over, slice_gives, fronts}
use Rattle.vectors.specs.Said.{checksum_of, summed_from}
use Rattle.vectors.proofs.said.checksum.Goals as goal

summed_more : {A : Type 0} (value : A → ℕ) (sum : ℕ) (xs : List A) (x : A)
    → summed_from sum (map value (xs ++ x ∷ [])) ≡ (summed_from sum (map value xs) % 4294967291 * 65599 + value x + 1) % 4294967291
summed_more value sum [] x = refl
summed_more value sum (y ∷ ys) x = summed_more value ((sum % 4294967291 * 65599 + value y + 1) % 4294967291) ys x

pub returns : goal.returns
returns g c = subst (λ xs. c.fold.result ≡ checksum_of (map g.T.Element.value xs)) c.iter.ensures.rest
    (fold_over fronts (λ y. y.now) _ (λ ys n. n ≡ checksum_of (map g.T.Element.value ys)) _
    (λ ys a x b f' j k. let more = summed_more g.T.Element.value 0 ys x.now in search rules)
    _ _ _ _ (slice_gives c.iter.result) refl c.fold.ensures.ran)
