use Rattle.std.proofs.Common.{◌≡◌, ℕ, ◌+◌, ◌≤◌, List, [], ◌++◌, length, take, drop, sym, ap, ◌∙◌, add-zero, arith}
use Rattle.std.proofs.lemmas.List.{append_assoc, length-append, length-take-le, length-drop, take_at, drop_at, drop-drop, take-append-drop}
use Rattle.byte_fields.specs.Wrote.{Wrote}

-- nothing written
pub wrote_none : (xs : List ℕ) (at : ℕ) → at ≤ length xs → Wrote xs at at [] xs
wrote_none xs at h = record {
  fits = omega arith;
  ends = omega arith;
  after = rw (add-zero at) (sym (take-append-drop at xs));
}

module _ {xs : List ℕ} {at end : ℕ} {bs ys : List ℕ} (w : Wrote xs at end bs ys) where
  -- what lies before `end`
  upto : length (take at xs ++ bs) ≡ at + length bs
  upto = length-append (take at xs) bs ∙ omega (arith, length-take-le at xs (omega (arith, w.fits)))

  halves : ys ≡ (take at xs ++ bs) ++ drop (at + length bs) xs
  halves = w.after ∙ sym (append_assoc (take at xs) bs (drop (at + length bs) xs))

  front : take end ys ≡ take at xs ++ bs
  front = rw (halves, w.ends) (take_at (take at xs ++ bs) (drop (at + length bs) xs) (at + length bs) upto)

  -- the buffer is as long as it was
  pub wrote_length : length ys ≡ length xs
  wrote_length =
      ap length halves ∙ length-append (take at xs ++ bs) (drop (at + length bs) xs)
      ∙ omega (arith, upto, length-drop (at + length bs) xs, w.fits)

  -- what lies past `end` is as it was
  pub wrote_drop : drop end ys ≡ drop end xs
  wrote_drop = rw (halves, w.ends) (drop_at (take at xs ++ bs) (drop (at + length bs) xs) (at + length bs) upto)

  -- a second writing right after the first
  pub wrote_then : {f : ℕ} {cs zs : List ℕ} → Wrote ys end f cs zs → Wrote xs at f (bs ++ cs) zs
  wrote_then {f} {cs} {zs} v =
      let both : length (bs ++ cs) ≡ length bs + length cs = length-append bs cs in
      let place : end + length cs ≡ at + length (bs ++ cs) = omega (arith, w.ends) in
      let past = sym (drop-drop (length cs) end ys) ∙ ap (drop (length cs)) wrote_drop ∙ drop-drop (length cs) end xs ∙ ap (λ (n : ℕ). drop n xs) place in
      record {
        fits = omega (arith, v.fits, wrote_length, place);
        ends = v.ends ∙ place;
        after = v.after ∙ rw (front, past) (simp append_assoc);
      }

-- what was written at the start
pub wrote_take : {xs : List ℕ} {end : ℕ} {bs ys : List ℕ} → Wrote xs 0 end bs ys → take end ys ≡ bs
wrote_take w = front w
