-- A patch's text is read back as that patch, and a text that is read is that patch's.
use Rattle.std.specs.Prelude.{◌≡◌, ℕ, ◌<◌, ◌≤◌, true, List, ◌++◌, length, take, drop, ℤ, pos, negsuc, ◌≤ℤ◌, Some, None, Ok, Err, Result, FitsSigned, int_le, nat_le, refl}
use Rattle.std.proofs.Common.{sym, ap, subst, ◌∙◌, inl, inr, arith, of_z, to_z}
use Rattle.std.specs.Int.{w16, w64}
use Rattle.std.proofs.ByRecursion.{All-append}
use Rattle.std.proofs.lemmas.List.{length-append, length-take-le, length-drop}
use Rattle.std.proofs.lemmas.Int.{to_z-of_z}
use Rattle.std.proofs.lemmas.Bool.{and_parts, and_from, cases_Bool, cond-true, cond-false, leb-true, le-leb}
use Rattle.std.specs.Option.{ok_or}
use Rattle.columns.specs.Faults.{at_column}
use Rattle.columns.specs.Number.{text, field}
use Rattle.columns.specs.Reading.{unsigned_reading, signed_reading}
use Rattle.columns.specs.declared.fault.ColumnFault.{ColumnFault}
use Rattle.columns.specs.declared.write_refusal.WriteRefusal.TheVariants.{Range}
use Rattle.columns.proofs.Laws.{length_text, length_text_below, text_below, text_above, length_field, printed_field, unsigned_back, unsigned_only, signed_back, signed_only, true_leZ, leZ_true}
use Rattle.items.specs.ItemText.{Printed}
use Rattle.items.specs.Patch.{face_most, zone_most, level_least, level_most, patch_fits, patch_columns, patch_text, patch_of, patch_reading}
use Rattle.items.specs.declared.patch.Patch.{Patch}
use Rattle.items.specs.Parts.{at_ok, first, next, third, whole_three}

-- what it is to be in range
pub record Fits (p : Patch) : Type 0 where
  pub face : p.face ≤ face_most
  pub zone : p.zone ≤ zone_most
  pub least : level_least ≤ℤ p.level
  pub most : p.level ≤ℤ level_most

pub fits_true : (p : Patch) → patch_fits p ≡ true → Fits p
fits_true p e =
    let a = and_parts (nat_le p.face face_most) _ e in
    let b = and_parts (nat_le p.zone zone_most) _ a.1 in
    let d = and_parts (int_le level_least p.level) (int_le p.level level_most) b.1 in
    record { face = leb-true _ _ a.0; zone = leb-true _ _ b.0; least = true_leZ level_least p.level d.0; most = true_leZ p.level level_most d.1 }

pub true_fits : (p : Patch) → Fits p → patch_fits p ≡ true
true_fits p f =
    and_from _ _ (le-leb _ _ f.face) (and_from _ _ (le-leb _ _ f.zone) (and_from _ _ (leZ_true level_least p.level f.least) (leZ_true p.level level_most f.most)))

pub text_is : (p : Patch) (cs : List ℕ) → patch_text p ≡ Some cs → Fits p × (patch_columns p ≡ cs)
unfolding patch_text
text_is p cs e =
    elim (cases_Bool (patch_fits p)) [
      | inl is ↦ let f : Some (patch_columns p) ≡ Some cs = sym (cond-true _ _ _ is) ∙ e in (fits_true p is, cc)
      | inr is ↦ let f : None ≡ Some cs = sym (cond-false _ _ _ is) ∙ e in cc
    ]

pub is_text : (p : Patch) → Fits p → patch_text p ≡ Some (patch_columns p)
unfolding patch_text
is_text p f = cond-true _ _ _ (true_fits p f)

face_length : (p : Patch) → Fits p → length (field 8 (pos p.face)) ≡ 8
face_length p f = length_field 8 (pos p.face) (length_text 8 p.face (omega arith) (omega (arith, f.face)))

zone_length : (p : Patch) → Fits p → length (field 4 (pos p.zone)) ≡ 4
zone_length p f = length_field 4 (pos p.zone) (length_text 4 p.zone (omega arith) (omega (arith, f.zone)))

pub level_room : (z : ℤ) → level_least ≤ℤ z → z ≤ℤ level_most → length (text z) ≤ 3
level_room (pos n) l m = length_text 3 n (omega arith) (omega (arith, leb-true n 999 (leZ_true (pos n) level_most m)))
level_room (negsuc n) l m = length_text_below 2 n (omega arith) (omega (arith, leb-true n 98 (leZ_true level_least (negsuc n) l)))

level_length : (p : Patch) → Fits p → length (field 3 p.level) ≡ 3
level_length p f = length_field 3 p.level (level_room p.level f.least f.most)

patch_back_at : (p : Patch) → Fits p → patch_reading (patch_columns p) ≡ Ok p
unfolding patch_reading
patch_back_at p f =
    let a = field 8 (pos p.face) in
    let b = field 4 (pos p.zone) in
    let d = field 3 p.level in
    let la = face_length p f in
    let lb = zone_length p f in
    let ld = level_length p f in
    let fa : unsigned_reading 0 face_most (take 8 (a ++ (b ++ d))) ≡ Ok p.face =
    ap (unsigned_reading 0 face_most) (first a (b ++ d) 8 la) ∙ unsigned_back 8 0 face_most p.face (omega arith) (omega arith) (omega arith) f.face in
    let fb : unsigned_reading 0 zone_most (take 4 (drop 8 (a ++ (b ++ d)))) ≡ Ok p.zone =
    ap (unsigned_reading 0 zone_most) (next a b d 8 4 la lb) ∙ unsigned_back 4 0 zone_most p.zone (omega arith) (omega arith) (omega arith) f.zone in
    let fd : signed_reading level_least level_most (take 3 (drop 12 (a ++ (b ++ d)))) ≡ Ok p.level =
    ap (signed_reading level_least level_most) (third a b d 8 4 3 la lb ld) ∙ signed_back 3 level_least level_most p.level f.least f.most in
    joined p _ _ _ fa fb fd where
      joined : (p : Patch) (x y : Result ℕ _) (z : Result ℤ _) → x ≡ Ok p.face → y ≡ Ok p.zone → z ≡ Ok p.level → patch_of (at_column 1 x) (at_column 9 y) (at_column 13 z) ≡ Ok p
      joined p x y z ex ey ez = ap (λ t. patch_of (at_column 1 t) (at_column 9 y) (at_column 13 z)) ex ∙ ap (λ t. patch_of (Ok p.face) (at_column 9 t) (at_column 13 z)) ey ∙ ap (λ t. patch_of (Ok p.face) (Ok p.zone) (at_column 13 t)) ez

pub patch_back : (p : Patch) (cs : List ℕ) → patch_text p ≡ Some cs → patch_reading cs ≡ Ok p
patch_back p cs e = let h = text_is p cs e in ap patch_reading (sym h.1) ∙ patch_back_at p h.0

parts_of : (x y : Result ℕ ColumnFault) (z : Result ℤ ColumnFault) (p : Patch) → patch_of x y z ≡ Ok p → (x ≡ Ok p.face) × (y ≡ Ok p.zone) × (z ≡ Ok p.level)
parts_of (Err e) y z p h = cc
parts_of (Ok f) (Err e) z p h = cc
parts_of (Ok f) (Ok g) (Err e) p h = cc
parts_of (Ok f) (Ok g) (Ok l) p h = let e : record { face = f; zone = g; level = l } ≡ p = cc in (ap (λ q. Ok q.face) e, ap (λ q. Ok q.zone) e, ap (λ q. Ok q.level) e)

pub patch_only : (cs : List ℕ) (p : Patch) → length cs ≡ 15 → patch_reading cs ≡ Ok p → patch_text p ≡ Some cs
unfolding patch_reading
patch_only cs p n e =
    let h = parts_of _ _ _ p e in
    let a = unsigned_only 0 face_most (take 8 cs) p.face (at_ok 1 _ _ h.0) in
    let b = unsigned_only 0 zone_most (take 4 (drop 8 cs)) p.zone (at_ok 9 _ _ h.1) in
    let d = signed_only level_least level_most (take 3 (drop 12 cs)) p.level (at_ok 13 _ _ h.2) in
    let la : length (take 8 cs) ≡ 8 = length-take-le 8 cs (omega arith) in
    let lb : length (take 4 (drop 8 cs)) ≡ 4 = length-take-le 4 (drop 8 cs) (omega (arith, length-drop 8 cs)) in
    let ld : length (take 3 (drop 12 cs)) ≡ 3 = length-take-le 3 (drop 12 cs) (omega (arith, length-drop 12 cs)) in
    is_text p (record { face = a.2; zone = b.2; least = d.1; most = d.2 })
    ∙ ap (λ l. Some l)
    (ap (λ l. l ++ (field 4 (pos p.zone) ++ field 3 p.level)) (ap (λ k. field k (pos p.face)) (sym la) ∙ sym a.0)
    ∙ ap (λ l. take 8 cs ++ (l ++ field 3 p.level)) (ap (λ k. field k (pos p.zone)) (sym lb) ∙ sym b.0)
    ∙ ap (λ l. take 8 cs ++ (take 4 (drop 8 cs) ++ l)) (ap (λ k. field k p.level) (sym ld) ∙ sym d.0)
    ∙ whole_three cs 8 4 3 n)

pub patch_wide : (p : Patch) (cs : List ℕ) → patch_text p ≡ Some cs → length cs ≡ 15
patch_wide p cs e =
    let h = text_is p cs e in
    ap length (sym h.1)
    ∙ length-append (field 8 (pos p.face)) (field 4 (pos p.zone) ++ field 3 p.level)
    ∙ omega (arith, length-append (field 4 (pos p.zone)) (field 3 p.level), face_length p h.0, zone_length p h.0, level_length p h.0)

pub patch_printed : (p : Patch) (cs : List ℕ) → patch_text p ≡ Some cs → Printed cs
patch_printed p cs e =
    subst Printed (text_is p cs e).1
    (All-append _ (field 8 (pos p.face)) _ (printed_field 8 (pos p.face))
    (All-append _ (field 4 (pos p.zone)) _ (printed_field 4 (pos p.zone)) (printed_field 3 p.level)))

-- a part whose text is too wide leaves no text, and parts that all fit leave one

no_text : (p : Patch) → (Fits p → ⊥) → patch_text p ≡ None
unfolding patch_text
no_text p no' =
    elim (cases_Bool (patch_fits p)) [ inl is ↦ absurd (no' (fits_true p is)) | inr is ↦ cond-false _ _ _ is ]

pub past_face : (p : Patch) → 8 < length (text (pos p.face)) → ok_or (patch_text p) Range ≡ Err Range
past_face p h = ap (λ t. ok_or t Range) (no_text p (λ f. omega (arith, length_text 8 p.face (omega arith) (omega (arith, f.face)))))

pub past_zone : (p : Patch) → 4 < length (text (pos p.zone)) → ok_or (patch_text p) Range ≡ Err Range
past_zone p h = ap (λ t. ok_or t Range) (no_text p (λ f. omega (arith, length_text 4 p.zone (omega arith) (omega (arith, f.zone)))))

pub past_level : (p : Patch) → 3 < length (text p.level) → ok_or (patch_text p) Range ≡ Err Range
past_level p h = ap (λ t. ok_or t Range) (no_text p (λ f. omega (arith, level_room p.level f.least f.most)))

level_from : (z : ℤ) → length (text z) ≤ 3 → (level_least ≤ℤ z) × (z ≤ℤ level_most)
level_from (pos n) h = (true_leZ level_least (pos n) refl, true_leZ (pos n) level_most (le-leb n 999 (omega (arith, text_below 3 n h))))
level_from (negsuc n) h = (true_leZ level_least (negsuc n) (le-leb n 98 (omega (arith, text_above 2 n h))), true_leZ (negsuc n) level_most refl)

pub parts_text : (p : Patch) → length (text (pos p.face)) ≤ 8 → length (text (pos p.zone)) ≤ 4 → length (text p.level) ≤ 3 → ok_or (patch_text p) Range ≡ Ok (patch_columns p)
parts_text p f z l =
    let h = level_from p.level l in
    ap (λ t. ok_or t Range)
    (is_text p (record { face = omega (arith, text_below 8 p.face f); zone = omega (arith, text_below 4 p.zone z); least = h.0; most = h.1 }))

-- a level as it is passed on, to its bits and back

pub level_carried : (z r : ℤ) → FitsSigned w16 z → r ≡ to_z w16 (of_z w16 z) → to_z w64 (of_z w64 r) ≡ z
level_carried z r f e =
    let wide : FitsSigned w64 z = record { sfits = omega (arith, f.sfits) } in
    ap (λ x. to_z w64 (of_z w64 x)) (e ∙ to_z-of_z w16 z f) ∙ to_z-of_z w64 z wide

pub patch_put : (p : Patch) (face zone level : List ℕ) → face ≡ field 8 (pos p.face) → zone ≡ field 4 (pos p.zone) → level ≡ field 3 p.level → length (text (pos p.face)) ≤ 8 → length (text (pos p.zone)) ≤ 4 → length (text p.level) ≤ 3 → Ok (face ++ (zone ++ level)) ≡ ok_or (patch_text p) Range
patch_put p face zone level ef ez el f z l =
    ap (λ x. Ok (x ++ (zone ++ level))) ef
    ∙ ap (λ x. Ok (field 8 (pos p.face) ++ (x ++ level))) ez
    ∙ ap (λ x. Ok (field 8 (pos p.face) ++ (field 4 (pos p.zone) ++ x))) el
    ∙ sym (parts_text p f z l)

pub patch_made : (f z : ℕ) (l : ℤ) (x y : Result ℕ ColumnFault) (w : Result ℤ ColumnFault) → Ok f ≡ x → Ok z ≡ y → Ok l ≡ w → Ok (record { face = f; zone = z; level = l }) ≡ patch_of x y w
patch_made f z l x y w ex ey ew = ap (λ t. patch_of t (Ok z) (Ok l)) ex ∙ ap (λ t. patch_of x t (Ok l)) ey ∙ ap (λ t. patch_of x y t) ew
