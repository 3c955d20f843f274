-- What a reader must believe.
pub mod TrapDelivery
pub mod DeliveryStores
pub mod TrapReturn
-- Laws: what is proved of the definitions.
pub mod DeliveryLaws
