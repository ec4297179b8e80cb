-- The end of a reading, as a link's fault.
use Rattle.std.proofs.Common.{◌≡◌, IsTrue, IsFalse, Result, Err, subst, sym, refl}
use Rattle.adr_wire.specs.declared.end.MessageFault.TheVariants.{Malformed, TooLarge, NoCoding}
use Rattle.adr_wire.specs.declared.end.ReadEnd.{ReadEnd}
use Rattle.adr_wire.specs.declared.end.ReadEnd.TheVariants.{Bytes, Reader, OutOfMemory}
use Rattle.adr_wire.specs.Pieces.{OnFault, is_reader}
use Rattle.adr_link.specs.declared.reply.HttpReply.{HttpReply}
use Rattle.adr_link.specs.declared.reply.LinkFault.{LinkFault}
use Rattle.adr_link.specs.declared.reply.LinkFault.TheVariants as link
use Rattle.adr_link.specs.Replies.{link_end, linked, IsLinkReading}

pub link_reading : (e : ReadEnd) (f : LinkFault) (P : Result HttpReply LinkFault → Type 0) → f ≡ link_end e → OnFault e (λ g. P (linked (Err g))) → IsLinkReading (Err f) P
link_reading (Bytes Malformed) f P is h = subst (λ x. IsLinkReading (Err x) P) (sym is) h
link_reading (Bytes TooLarge) f P is h = subst (λ x. IsLinkReading (Err x) P) (sym is) h
link_reading (Bytes NoCoding) f P is h = subst (λ x. IsLinkReading (Err x) P) (sym is) h
link_reading Reader f P is h = subst (λ x. IsLinkReading (Err x) P) (sym is) h
link_reading OutOfMemory f P is h = subst (λ x. IsLinkReading (Err x) P) (sym is) h

-- only a reader's fault is one of the link's read
pub link_failed : (e : ReadEnd) → link_end e ≡ link.Read → IsTrue (is_reader e)
link_failed (Bytes Malformed) is = absurd cc
link_failed (Bytes TooLarge) is = absurd cc
link_failed (Bytes NoCoding) is = absurd cc
link_failed Reader is = refl
link_failed OutOfMemory is = absurd cc

-- and each is
pub link_not_failed : (e : ReadEnd) → ¬ (link_end e ≡ link.Read) → IsFalse (is_reader e)
link_not_failed (Bytes f) not = refl
link_not_failed Reader not = absurd (not refl)
link_not_failed OutOfMemory not = refl
