-- Places, marks, kinds and refusals as text.
use Rattle.std.specs.Prelude.{ℕ, List, ◌++◌, if◌then◌else◌, codes, decimal}
use Rattle.media.specs.Address.{address_refusal_number}
use Rattle.media.specs.declared.address.AddressRefusal.{AddressRefusal}
use Rattle.media.specs.declared.address.Place.{Place}
use Rattle.media.specs.declared.kinds.UnknownKind.{UnknownKind}
use Rattle.media.specs.declared.marks.Mark.{Mark}

-- Where a sector lies.
abbrev pub place_text : Place → List ℕ
place_text p = codes "cylinder " ++ (decimal p.cylinder ++ (codes ", head " ++ (decimal p.head ++ (codes ", sector " ++ decimal p.sector))))

-- What is wrong with a sector.
abbrev pub mark_text : Mark → List ℕ
mark_text m =
    if m.unreadable
    then if m.damaged then codes "its header cannot be read, and its data is damaged" else codes "its header cannot be read"
    else if m.damaged then codes "its data is damaged" else codes "nothing is wrong"

-- Which number is no kind's.
abbrev pub unknown_kind_text : UnknownKind → List ℕ
unknown_kind_text k = codes "no kind of pack has number " ++ decimal k.0

-- Why an address is refused, after the number of the refusal.
abbrev pub address_refusal_text : AddressRefusal → List ℕ
address_refusal_text e = codes "refused " ++ (decimal (address_refusal_number e) ++ codes ": there is no such sector")
