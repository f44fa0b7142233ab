use Rattle.std.proofs.Common.{◌≡◌, ℕ, zero, suc, ◌+◌, ◌-◌, ◌*◌, ◌/◌, ◌%◌, ◌^◌, ◌<◌, ◌≤◌, List, [], ◌∷◌, ◌++◌, length, take, drop, refl, ap, ◌∙◌, mul_assoc, arith}
use native.Mathlib.Nat.{pow-succ', mod-add-div, div-div-eq-div-mul}
use Rattle.std.proofs.lemmas.List.{take_at, drop_at, take-take, drop-take, drop-drop}
use Rattle.byte_fields.specs.Little.{little, spread, field, Bytes}

-- a number that n bytes can hold is what its n bytes stand for
pub little_spread : (n x : ℕ) → x < 256 ^ n → little (spread n x) ≡ x
little_spread zero x h = omega arith
little_spread (suc n) x h =
    let part : x / 256 < 256 ^ n = omega (arith, pow-succ' 256 n) in
    ap (λ (q : ℕ). x % 256 + 256 * q) (little_spread n (x / 256) part) ∙ mod-add-div x 256

pub length_spread : (n x : ℕ) → length (spread n x) ≡ n
length_spread zero x = refl
length_spread (suc n) x = ap suc (length_spread n (x / 256))

pub bytes_spread : (n x : ℕ) → Bytes (spread n x)
bytes_spread zero x = tt
bytes_spread (suc n) x = (omega arith, bytes_spread n (x / 256))

pub little_lt : (bs : List ℕ) → Bytes bs → little bs < 256 ^ length bs
little_lt [] h = omega arith
little_lt (b ∷ bs) h = omega (arith, pow-succ' 256 (length bs), little_lt bs h.1, h.0)

-- bytes are given back by the number that they stand for
pub spread_little : (bs : List ℕ) → Bytes bs → spread (length bs) (little bs) ≡ bs
spread_little [] h = refl
spread_little (b ∷ bs) h =
    let low : (b + 256 * little bs) % 256 ≡ b = omega (arith, h.0) in
    let high : (b + 256 * little bs) / 256 ≡ little bs = omega (arith, h.0) in
    rw (low, high) (ap (λ (cs : List ℕ). b ∷ cs) (spread_little bs h.1))

pub little_append : (bs cs : List ℕ) → little (bs ++ cs) ≡ little bs + 256 ^ length bs * little cs
little_append [] cs = omega arith
little_append (b ∷ bs) cs =
    let more = ap (λ (p : ℕ). p * little cs) (pow-succ' 256 (length bs)) ∙ mul_assoc 256 (256 ^ length bs) (little cs) in
    omega (arith, little_append bs cs, more)

-- a field that was laid down is read again
pub field_at : (front : List ℕ) (n x : ℕ) (rest : List ℕ) (at : ℕ) → length front ≡ at → x < 256 ^ n → field (front ++ (spread n x ++ rest)) at n ≡ x
field_at front n x rest at e h =
    ap (λ (cs : List ℕ). little (take n cs)) (drop_at front (spread n x ++ rest) at e)
    ∙ ap little (take_at (spread n x) rest n (length_spread n x))
    ∙ little_spread n x h

-- a field inside a part
pub field_part : (bs : List ℕ) (a at n m : ℕ) → at + n ≤ m → field (take m (drop a bs)) at n ≡ field bs (a + at) n
field_part bs a at n m h =
    let split : m ≡ at + (m - at) = omega arith in
    ap (λ (k : ℕ). field (take k (drop a bs)) at n) split
    ∙ ap (λ (cs : List ℕ). little (take n cs)) (drop-take at (m - at) (drop a bs))
    ∙ ap little (take-take n (m - at) (drop at (drop a bs)) (omega arith))
    ∙ ap (λ (cs : List ℕ). little (take n cs)) (drop-drop at a bs)

-- what `u32::to_le_bytes` gives
pub spread_four : (x : ℕ) → spread 4 x ≡ (x % 256) ∷ (x / 256 % 256) ∷ (x / 65536 % 256) ∷ (x / 16777216 % 256) ∷ []
spread_four x = simp div-div-eq-div-mul
