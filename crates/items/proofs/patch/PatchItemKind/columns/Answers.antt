use Rattle.std.proofs.Common.{◌≡◌, ◌<◌, ◌≤◌, ◌++◌, length, take, drop, replicate, ℤ, pos, Ok, Err, sym, refl, ap, ◌∙◌, subst, arith, length-append, w16, SFits, to_z, of_z, rules}
use borrow.Rule.Slice.PartMut.{put_mid}
use Rattle.std.proofs.lemmas.Result.{err_from_is_err_and}
use Rattle.std.proofs.lemmas.Int.{to_z-of_z}
use Rattle.columns.specs.Number.{text, field}
use Rattle.columns.proofs.Laws.{written_ok, written_err}
use Rattle.items.specs.Parts.{next, third, put_next, put_third}
use Rattle.items.specs.Patches.{past_face, past_zone, past_level, patch_put}
use Rattle.items.proofs.patch.PatchItemKind.columns.Goals as goal

pub returns-in_err-write_number : goal.returns-in_err-write_number
returns-in_err-write_number c =
    let p = err_from_is_err_and c.from_residual.result c.from_residual.ensures.1 in
    let v = written_err 8 (pos c.args.self.face) (replicate 8 32) c.write_number.new.buffer c.write_number.result c.in_err-write_number.field-0.0 refl c.write_number.ensures c.in_err-write_number.was in
    p.1 ∙ ap (λ x. Err x) (p.2 ∙ v.0) ∙ sym (past_face c.args.self v.1)

pub returns-in_err-write_number-2 : goal.returns-in_err-write_number-2
returns-in_err-write_number-2 c =
    let face = c.write_number.new.buffer in
    let room : length face ≡ 8 = search rules in
    let p = err_from_is_err_and c.from_residual-in_err-write_number-2.result c.from_residual-in_err-write_number-2.ensures.1 in
    let v = written_err 4 (pos c.args.self.zone) (take 4 (drop 8 (face ++ replicate 7 32))) c.write_number-2.new.buffer c.write_number-2.result c.in_err-write_number-2.field-0.0 (ap length (next face (replicate 4 32) (replicate 3 32) 8 4 room refl)) c.write_number-2.ensures c.in_err-write_number-2.was in
    p.1 ∙ ap (λ x. Err x) (p.2 ∙ v.0) ∙ sym (past_zone c.args.self v.1)

pub slice_bounds-columns-end-3 : goal.slice_bounds-columns-end-3
slice_bounds-columns-end-3 c =
    let face = c.write_number.new.buffer in
    let zone = c.write_number-2.new.buffer in
    let room : length face ≡ 8 = search rules in
    let room_2 : length (take 4 (drop 8 (face ++ replicate 7 32))) ≡ 4 = ap length (next face (replicate 4 32) (replicate 3 32) 8 4 room refl) in
    let size : length zone ≡ 4 = search rules in
    omega (arith, ap length (put_next face (replicate 4 32) (replicate 3 32) zone 8 4 room refl), length-append face (zone ++ replicate 3 32), length-append zone (replicate 3 32))

pub returns-in_err-write_number-3 : goal.returns-in_err-write_number-3
returns-in_err-write_number-3 c =
    let face = c.write_number.new.buffer in
    let zone = c.write_number-2.new.buffer in
    let room : length face ≡ 8 = search rules in
    let room_2 : length (take 4 (drop 8 (face ++ replicate 7 32))) ≡ 4 = ap length (next face (replicate 4 32) (replicate 3 32) 8 4 room refl) in
    let size : length zone ≡ 4 = search rules in
    let both = put_next face (replicate 4 32) (replicate 3 32) zone 8 4 room refl in
    let p = err_from_is_err_and c.from_residual-in_err-write_number-3.result c.from_residual-in_err-write_number-3.ensures.1 in
    let fits : SFits w16 c.args.self.level = search rules in
    let level = to_z w16 (of_z w16 c.args.self.level) in
    let same : level ≡ c.args.self.level = to_z-of_z w16 c.args.self.level fits in
    let v = written_err 3 level (take 3 (drop 12 (put_mid 8 4 (face ++ replicate 7 32) zone))) c.write_number-3.new.buffer c.write_number-3.result c.in_err-write_number-3.field-0.0
    (ap (λ l. length (take 3 (drop 12 l))) both ∙ ap length (third face zone (replicate 3 32) 8 4 3 room size refl)) c.write_number-3.ensures c.in_err-write_number-3.was in
    p.1 ∙ ap (λ x. Err x) (p.2 ∙ v.0) ∙ sym (past_level c.args.self (subst (λ (z : ℤ). 3 < length (text z)) same v.1))

pub returns : goal.returns
returns c =
    let face = c.write_number.new.buffer in
    let zone = c.write_number-2.new.buffer in
    let level = c.write_number-3.new.buffer in
    let room : length face ≡ 8 = search rules in
    let room_2 : length (take 4 (drop 8 (face ++ replicate 7 32))) ≡ 4 = ap length (next face (replicate 4 32) (replicate 3 32) 8 4 room refl) in
    let size : length zone ≡ 4 = search rules in
    let both = put_next face (replicate 4 32) (replicate 3 32) zone 8 4 room refl in
    let vf = written_ok 8 (pos c.args.self.face) (replicate 8 32) face c.write_number.result refl c.write_number.ensures c.in_ok-write_number.was in
    let vz = written_ok 4 (pos c.args.self.zone) (take 4 (drop 8 (face ++ replicate 7 32))) zone c.write_number-2.result room_2 c.write_number-2.ensures c.in_ok-write_number-2.was in
    let fits : SFits w16 c.args.self.level = search rules in
    let shown = to_z w16 (of_z w16 c.args.self.level) in
    let same : shown ≡ c.args.self.level = to_z-of_z w16 c.args.self.level fits in
    let vl = written_ok 3 shown (take 3 (drop 12 (put_mid 8 4 (face ++ replicate 7 32) zone))) level c.write_number-3.result
    (ap (λ l. length (take 3 (drop 12 l))) both ∙ ap length (third face zone (replicate 3 32) 8 4 3 room size refl)) c.write_number-3.ensures c.in_ok-write_number-3.was in
    ap (λ l. Ok (put_mid 12 3 l level)) both
    ∙ ap (λ l. Ok l) (put_third face zone (replicate 3 32) level 8 4 3 room size refl)
    ∙ patch_put c.args.self face zone level
    vf.0 vz.0 (vl.0 ∙ ap (field 3) same) vf.1 vz.1 (subst (λ (z : ℤ). length (text z) ≤ 3) same vl.1)
