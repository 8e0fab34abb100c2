-- A patch in fifteen columns: 1 to 8 its face, 9 to 12 its zone, 13 to 15 its level.
use Rattle.std.specs.Prelude.{ℕ, ◌+◌, Bool, cond, ◌&&◌, List, ◌++◌, take, drop, ℤ, pos, negsuc, Some, None, Ok, Err, Option, Result, int_le, nat_le}
use Rattle.columns.specs.Faults.{at_column}
use Rattle.columns.specs.Number.{field}
use Rattle.columns.specs.Reading.{unsigned_reading, signed_reading}
use Rattle.columns.specs.declared.fault.ColumnFault.{ColumnFault}
use Rattle.items.specs.declared.patch.Patch.{Patch}

-- columns 1 to 8 have the face
abbrev pub face_width : ℕ
face_width = 8

-- columns 9 to 12 have the zone
abbrev pub zone_width : ℕ
zone_width = 4

-- columns 13 to 15 have the level
abbrev pub level_width : ℕ
level_width = 3

-- how many columns stand before the zone
abbrev pub zone_start : ℕ
zone_start = face_width

-- how many columns stand before the level
abbrev pub level_start : ℕ
level_start = face_width + zone_width

-- a face is from 0 to this
abbrev pub face_most : ℕ
face_most = 99999999

-- a zone is from 0 to this
abbrev pub zone_most : ℕ
zone_most = 9999

-- a level is from -99
abbrev pub level_least : ℤ
level_least = negsuc 98

-- a level is up to this
abbrev pub level_most : ℤ
level_most = pos 999

-- all three numbers are in range
abbrev pub patch_fits : Patch → Bool
patch_fits p = nat_le p.face face_most && (nat_le p.zone zone_most && (int_le level_least p.level && int_le p.level level_most))

-- face, zone and level, each right-justified in its columns
abbrev pub patch_columns : Patch → List ℕ
patch_columns p = field face_width (pos p.face) ++ (field zone_width (pos p.zone) ++ field level_width p.level)

-- what a patch writes, where its numbers are in range
unfoldable pub patch_text : Patch → Option (List ℕ)
patch_text p = cond (patch_fits p) (Some (patch_columns p)) None

-- the parts from the left: the first faulty one is told
abbrev pub patch_of : Result ℕ ColumnFault → Result ℕ ColumnFault → Result ℤ ColumnFault → Result Patch ColumnFault
patch_of (Err e) z l = Err e
patch_of (Ok f) (Err e) l = Err e
patch_of (Ok f) (Ok z) (Err e) = Err e
patch_of (Ok f) (Ok z) (Ok l) = Ok (record { face = f; zone = z; level = l })

-- a patch by its fifteen columns: each part with its range, and its fault at its first column
unfoldable pub patch_reading : List ℕ → Result Patch ColumnFault
patch_reading cs =
    patch_of (at_column 1 (unsigned_reading 0 face_most (take face_width cs)))
    (at_column (zone_start + 1) (unsigned_reading 0 zone_most (take zone_width (drop zone_start cs))))
    (at_column (level_start + 1) (signed_reading level_least level_most (take level_width (drop level_start cs))))
