-- The places of a filter that are written are read again.
use Rattle.text_forms.proofs.Imports.{◌≡◌, ◌≤◌, ◌-◌, ◌/◌, ◌%◌, refl, ℕ, List, ◌++◌, length, take, drop, Some, codes, arith, length-append, take-append_seam, drop-append_seam, decimal, Place, hex_byte, digit_text, byte_text, number_between, HasBytes, place_text, place_with, place_named}
use Rattle.text_forms.proofs.Decimals.{number_between-decimal}
use Rattle.text_forms.proofs.HexPairs.{hex_byte-byte_text}

-- the nine bytes behind the number of a place
abbrev pub bytes_behind : Place → List ℕ
bytes_behind p = codes "=" ++ (byte_text p.filter ++ (codes "/" ++ (byte_text p.mask ++ (codes "/" ++ byte_text p.mode))))

pub place_with-bytes_behind : (p : Place) → HasBytes p → place_with p.number (bytes_behind p) ≡ Some p
unfolding place_with
place_with-bytes_behind p bytes =
    let f : hex_byte (digit_text (p.filter / 16)) (digit_text (p.filter % 16)) ≡ Some p.filter = hex_byte-byte_text p.filter bytes.0 in
    let m : hex_byte (digit_text (p.mask / 16)) (digit_text (p.mask % 16)) ≡ Some p.mask = hex_byte-byte_text p.mask bytes.1 in
    let d : hex_byte (digit_text (p.mode / 16)) (digit_text (p.mode % 16)) ≡ Some p.mode = hex_byte-byte_text p.mode bytes.2 in
    rw (f, m, d) refl

front : (p : Place) → take (length (place_text p) - 9) (place_text p) ≡ decimal p.number
front p =
    let long : length (place_text p) - 9 ≡ length (decimal p.number) = omega (arith, length-append (decimal p.number) (bytes_behind p)) in
    rw long (take-append_seam (decimal p.number) (bytes_behind p))

back : (p : Place) → drop (length (place_text p) - 9) (place_text p) ≡ bytes_behind p
back p =
    let long : length (place_text p) - 9 ≡ length (decimal p.number) = omega (arith, length-append (decimal p.number) (bytes_behind p)) in
    rw long (drop-append_seam (decimal p.number) (bytes_behind p))

pub place_named-place_text : (least : ℕ) (p : Place) → least ≤ p.number → p.number ≤ 15 → HasBytes p → place_named least (place_text p) ≡ Some p
unfolding place_named
place_named-place_text least p low high bytes =
    let n : number_between least 15 (decimal p.number) ≡ Some p.number = number_between-decimal least 15 p.number (omega arith) low high in
    rw (front p, back p, n) (place_with-bytes_behind p bytes)
