-- Images as codecs, and the reading of bytes with the first part that fails.
use Rattle.std.specs.Prelude.{◌≡◌, ◌≤◌, ℕ, zero, suc, ◌-◌, ◌^◌, Bool, true, not, ◌&&◌, ◌||◌, ◌==◌, nat_lt, nat_le, if◌then◌else◌, List, [], ◌∷◌, ◌++◌, length, take, drop, map, replicate, codes, Option, Some, None, is_some, Result, Ok, Err, ℤ, bytes_eq}
use Rattle.std.specs.List.{list_any, list_all, AllByRecursion}
use Rattle.std.specs.Option.{option_to_list}
use Rattle.std.specs.Int.{Width, w64, w128, byte_len, cast_signed, cast_unsigned}
use Rattle.amr_num.specs.declared.Axis.TheVariants.{X, Y, Z}
use Rattle.amr_num.specs.declared.SideKind.{SideKind}
use Rattle.amr_num.specs.declared.SideKind.TheVariants.{Periodic, Outflow, Closed}
use Rattle.mesh_model.specs.declared.geometry.Shape.{Shape}
use Rattle.mesh_model.specs.Geometry.Coordinates.{is_periodic_kind, side_kind, side_index}
use Rattle.mesh_model.specs.Language.Declarations.{are_paired}
use Rattle.mesh_model.specs.Geometry.Limits.{IsShape, most_nodes}
use Rattle.mesh_model.specs.Tree.Kinds.{Grid}
use Rattle.mesh_model.specs.Fields.RangeWalk.{cells_walked, is_above}
use Rattle.mesh_model.specs.Tree.Start.{start_leaves}
use Rattle.mesh_model.specs.Fields.VariableNames.{VariableNames}
use Rattle.mesh_model.specs.Language.Words.{is_name}
use Rattle.mesh_model.specs.declared.images.Part.{Part}
use Rattle.mesh_model.specs.declared.images.Part.TheVariants.{Length, Digest, Header, Tree, Values, Ending}
use Rattle.sha2.specs.Sha256.{sha256}
use Rattle.mesh_model.specs.Images.Codec.{Codec, byte_where, text, number, followed, where_passes, via, times}
use Rattle.mesh_model.specs.Images.Fits.{keeps_rule, marks_stand, NumbersFit, CellsFit}
use Rattle.mesh_model.specs.Tree.Forest.{visited}
use Rattle.mesh_model.specs.Images.Image.{Head, Stored, side_code, is_parent, blocks_by, grid_by, face_places, edge_places}

-- ---- the header

abbrev pub any : Codec ℕ
any = byte_where (λ b. true)

abbrev pub read_side : List ℕ → Option (SideKind × List ℕ)
read_side [] = None
read_side (zero ∷ rest) = Some (Periodic, rest)
read_side (suc zero ∷ rest) = Some (Outflow, rest)
read_side (suc (suc zero) ∷ rest) = Some (Closed, rest)
read_side (suc (suc (suc b)) ∷ rest) = None

abbrev pub side : Codec SideKind
side = record { write = λ s. side_code s ∷ []; read = read_side }

-- a length, and so many bytes that are a name
abbrev pub name : Codec (List ℕ)
name = where_passes is_name (via (λ p. p.1) (λ w. (length w, w)) (followed any (λ n. times n any)))

-- n, g, the roots, the levels and the sides
abbrev pub ShapeFields : Type 0
ShapeFields = ℕ × (ℕ × (ℕ × (ℕ × (ℕ × (ℕ × (ℕ × List SideKind))))))

abbrev pub to_shape : ShapeFields → Shape
to_shape p = record { rx = p.1.1.0; ry = p.1.1.1.0; rz = p.1.1.1.1.0; n = p.0; g = p.1.0; min = p.1.1.1.1.1.0; max = p.1.1.1.1.1.1.0; sides = p.1.1.1.1.1.1.1 }

abbrev pub from_shape : Shape → ShapeFields
from_shape s = (s.n, (s.g, (s.rx, (s.ry, (s.rz, (s.min, (s.max, s.sides)))))))

-- the limits of a shape
abbrev pub is_shape : Shape → Bool
is_shape s =
    ((s.n == 4) || (s.n == 8)) && ((s.g == 1) || ((s.g == 2) || (s.g == 4)))
    && (nat_lt 0 s.rx && nat_le s.rx 8) && (nat_lt 0 s.ry && nat_le s.ry 8) && (nat_lt 0 s.rz && nat_le s.rz 8)
    && (nat_le s.min s.max && nat_le s.max 10)
    && (are_paired (side_kind s.sides 0) (side_kind s.sides 1) && are_paired (side_kind s.sides 2) (side_kind s.sides 3) && are_paired (side_kind s.sides 4) (side_kind s.sides 5))

abbrev pub shape : Codec Shape
shape = where_passes is_shape (via to_shape from_shape
    (followed any (λ n. followed any (λ g. followed any (λ rx. followed any (λ ry. followed any (λ rz. followed any (λ min. followed any (λ max. times 6 side)))))))))

abbrev pub first : {A : Type 0} → List A → Option A
first [] = None
first (x ∷ xs) = Some x

abbrev pub NameFields : Type 0
NameFields = ℕ × (ℕ × (ℕ × (List (List ℕ) × (List (List ℕ) × List (List ℕ)))))

abbrev pub to_names : NameFields → VariableNames
to_names p = record { cells = p.1.1.1.0; face = first p.1.1.1.1.0; edge = first p.1.1.1.1.1 }

abbrev pub from_names : VariableNames → NameFields
from_names v = (length v.cells, (length (option_to_list v.face), (length (option_to_list v.edge), (v.cells, (option_to_list v.face, option_to_list v.edge)))))

-- no name is taken before
abbrev pub all_differ : List (List ℕ) → Bool
all_differ [] = true
all_differ (w ∷ ws) = not (list_any (bytes_eq w) ws) && all_differ ws

abbrev pub names_differ : VariableNames → Bool
names_differ v = all_differ (v.cells ++ option_to_list v.face ++ option_to_list v.edge)

-- the names are names, and differ
pub record NamesFit (v : VariableNames) : Type 0 where
  pub few : length v.cells ≤ 4
  pub cells : AllByRecursion (λ w. is_name w ≡ true) v.cells
  pub face : AllByRecursion (λ w. is_name w ≡ true) (option_to_list v.face)
  pub edge : AllByRecursion (λ w. is_name w ≡ true) (option_to_list v.edge)
  pub differ : names_differ v ≡ true

pub record HeadFits (h : Head) : Type 0 where
  pub turn : h.turn ≤ 2
  pub shape : IsShape h.shape
  pub names : NamesFit h.names

abbrev pub upto : ℕ → Codec ℕ
upto most = byte_where (λ b. nat_le b most)

abbrev pub names : Codec VariableNames
names = where_passes names_differ (via to_names from_names
    (followed (upto 4) (λ nc. followed (upto 1) (λ nf. followed (upto 1) (λ ne. followed (times nc name) (λ cells. followed (times nf name) (λ face. times ne name)))))))

abbrev pub head : Codec Head
head = via (λ p. record { turn = p.1.0; shape = p.1.1.0; names = p.1.1.1 }) (λ h. (tt, (h.turn, (h.shape, h.names))))
    (followed (text (codes "AMRCHK01")) (λ magic. followed (upto 2) (λ turn. followed shape (λ s. names))))

-- ---- the nodes

abbrev pub is_tree : Shape → List ℕ → Bool
is_tree s cs =
    list_all (λ c. nat_le c 4) cs && is_some (visited s.max (map is_parent cs) (start_leaves s)) && keeps_rule (grid_by s cs)
    && marks_stand s (blocks_by s cs) cs

abbrev pub tree : Shape → Codec (List ℕ)
tree s = where_passes (is_tree s) (via (λ p. p.1) (λ cs. (length cs, cs)) (followed (where_passes (λ n. nat_lt 0 n && nat_le n (most_nodes s)) (number 4)) (λ n. times n any)))

-- ---- the values

abbrev pub integer : Width → Codec ℤ
integer w = via (cast_signed w) (cast_unsigned w) (number (byte_len w))

abbrev pub content : Codec ℤ
content = where_passes (λ z. not (is_above (2 ^ 40) z)) (integer w64)

abbrev pub out : Codec ℤ
out = where_passes (λ z. not (is_above (2 ^ 100) z)) (integer w128)

abbrev pub ValueLists : Type 0
ValueLists = List (ℤ × List ℤ) × (List ℤ × List ℤ)

abbrev pub values : VariableNames → Grid → Codec ValueLists
values v g =
    followed (times (length v.cells) (followed out (λ o. times (length (cells_walked g)) content)))
    (λ cells. followed (times (length (face_places v g)) content) (λ faces. times (length (edge_places v g)) content))

-- numbers of the variables of a grid
pub record ValuesFit (v : VariableNames) (g : Grid) (p : ValueLists) : Type 0 where
  pub variables : length p.0 ≡ length v.cells
  pub cells : AllByRecursion (CellsFit (length (cells_walked g))) p.0
  pub faces : NumbersFit (length (face_places v g)) (2 ^ 40) p.1.0
  pub edges : NumbersFit (length (edge_places v g)) (2 ^ 40) p.1.1

-- ---- the reading

abbrev pub part : {A : Type 0} → Part → Option A → Result A Part
part p None = Err p
part p (Some x) = Ok x

infixl 10 ◌>>>◌
abbrev pub ◌>>>◌ : {A B : Type 0} → Result A Part → (A → Result B Part) → Result B Part
(Ok x) >>> f = f x
(Err e) >>> f = Err e

-- all bytes before the digest
unfoldable pub read_body : List ℕ → Result Stored Part
read_body bytes =
    part Header (head.read bytes) >>> λ h.
    part Tree ((tree h.0.shape).read h.1) >>> λ t.
    part Values ((values h.0.names (grid_by h.0.shape t.0)).read t.1) >>> λ v.
    if length v.1 == 0 then Ok (record { head = h.0; nodes = t.0; cells = v.0.0; faces = v.0.1.0; edges = v.0.1.1 }) else Err Ending

unfoldable pub read : List ℕ → Result Stored Part
read bytes =
    let front = take (length bytes - 32) bytes in
    if nat_lt (length bytes) 62 || nat_lt (2 ^ 29) (length bytes) then Err Length
    else if not (bytes_eq (drop (length bytes - 32) bytes) (sha256 front)) then Err Digest
    else read_body front

-- ---- the digests that are told of bytes that are no image

-- the last 32 bytes, or zeros where there are fewer
abbrev pub digest_kept : List ℕ → List ℕ
digest_kept bytes = if nat_lt (length bytes) 32 then replicate 32 0 else drop (length bytes - 32) bytes

-- the digest of the bytes before those, or of all
abbrev pub digest_found : List ℕ → List ℕ
digest_found bytes = sha256 (if nat_lt (length bytes) 32 then bytes else take (length bytes - 32) bytes)
